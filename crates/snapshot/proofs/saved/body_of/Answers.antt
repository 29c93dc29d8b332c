use Rattle.std.proofs.Common.{◌≡◌, ◌++◌, ◌∙◌, ap, sym, subst, List, [], ℕ, ◌<◌, ◌^◌, length}
use Rattle.std.proofs.lemmas.List.{append-nil}
use Rattle.shared_log.specs.Logged.{Logged}
use Rattle.snapshot.specs.Hosts.{FitEntries, body_code}
use Rattle.snapshot.specs.Logs.{AreWritten}
use Rattle.snapshot.proofs.saved.body_of.Goals as goal

pub returns : goal.returns
returns g c =
    let log = c.in_ok-encode_log.ensures.written in
    let named = c.as_bytes.ensures.value in
    record {
      pairs = log.0;
      written = subst (λ (l : Logged). AreWritten l.records log.0) c.log.ensures log.1;
      failures = subst (λ (l : Logged). l.failures ≡ 0) c.log.ensures c.in_ok-encode_log.ensures.failures;
      entries = subst (FitEntries g.H.Portable.state_fits) c.by_name.ensures c.in_ok-encode_entries.ensures.fits;
      about = subst (λ (b : List ℕ). length b < 2 ^ 64) named c.in_ok-encode_bytes.ensures.len;
      bytes = sym (append-nil c.encode_log.new.out.items) ∙ log.2 [] ∙ c.in_ok-encode_entries.ensures.code _
          ∙ c.in_ok-encode_bytes.ensures.code _
          ∙ ap (λ (xs : List ℕ). xs ++ body_code g.H.Portable.state_code c.as_bytes.result.now
          c.by_name.result.now.entries
          (length c.log.result.now.records, log.0)) c.new-body.ensures.items
          ∙ (λ i. body_code g.H.Portable.state_code (named i) (c.by_name.ensures i)
          (length (c.log.ensures i).records, log.0));
    }
