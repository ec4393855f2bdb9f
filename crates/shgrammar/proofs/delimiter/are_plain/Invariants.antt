use Rattle.std.proofs.Common.{◌≡◌, drop}
use Rattle.std.specs.List.{list_all}
use Rattle.shgrammar.specs.declared.mode.Mode.TheVariants.{Plain}
use Rattle.shgrammar.specs.Plain.{is_plain}
use Rattle.shgrammar.proofs.delimiter.are_plain.Given as goal

abbrev pub invariant-bytes : goal.invariant-bytes
invariant-bytes l = list_all (is_plain Plain) (drop l.byte-index l.word) ≡ list_all (is_plain Plain) l.word
