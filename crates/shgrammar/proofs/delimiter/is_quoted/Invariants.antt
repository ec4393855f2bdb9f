use Rattle.std.proofs.Common.{◌≡◌, ◌-◌, length, drop}
use Rattle.std.specs.Prelude.{◌==◌, ◌||◌}
use Rattle.std.specs.List.{list_any}
use Rattle.shast.specs.Shape.{bare}
use Rattle.shgrammar.specs.Characters.{apostrophe, backslash, quotation_mark}
use Rattle.shgrammar.specs.HereDocuments.{is_quoted}
use Rattle.shgrammar.proofs.delimiter.is_quoted.Given as goal

abbrev pub invariant-bytes : goal.invariant-bytes
invariant-bytes l = list_any (λ b. b == backslash || b == apostrophe || b == quotation_mark) (bare (drop l.at l.word))
    ≡ is_quoted l.word

abbrev pub decreases-bytes : goal.decreases-bytes
decreases-bytes l = length l.word - l.at
