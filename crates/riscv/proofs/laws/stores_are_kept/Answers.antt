use Rattle.riscv.proofs.Kept.{bytes_are_kept, halves_are_kept, words_are_kept}
use Rattle.riscv.proofs.laws.stores_are_kept.Goals as goal

pub returns : goal.returns
returns c = record { bytes = bytes_are_kept; halves = halves_are_kept; words = words_are_kept }
