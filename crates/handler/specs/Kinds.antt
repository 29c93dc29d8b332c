-- The kinds of the sample handler.
use Rattle.std.specs.Prelude.{ℕ}
use Rattle.handler.specs.declared.sample.SampleKind.{SampleKind}
use Rattle.handler.specs.declared.sample.SampleKind.TheVariants.{Echo, Relay, Count, Adder, Tee}

abbrev pub number_of : SampleKind → ℕ
number_of Echo = 0
number_of Relay = 1
number_of Count = 2
number_of Adder = 3
number_of Tee = 4
