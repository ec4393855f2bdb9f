use Rattle.std.proofs.Common.{◌≡◌, ◌<◌, ◌≤◌, ◌-◌, length, slice_get, Some}
use Rattle.shgrammar.specs.Characters.{newline_char}
use Rattle.shgrammar.specs.Search.{ArePassed}
use Rattle.shpass.proofs.passable_front.faultless_front.Given as goal

abbrev pub invariant-lines : goal.invariant-lines
invariant-lines g l =
    let bytes = g.S.Source.bytes l.source in
    record {
      within : l.at ≤ length bytes;
      passed : ArePassed l.edition bytes l.at;
      newline : 0 < l.at → slice_get bytes (l.at - 1) ≡ Some newline_char;
    }

abbrev pub decreases-lines : goal.decreases-lines
decreases-lines g l = length (g.S.Source.bytes l.source) - l.at
