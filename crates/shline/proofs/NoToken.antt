-- No token in hand: the end of the text is one.
use Rattle.std.proofs.Common.{◌≡◌, ℕ, List, None, length, slice_get, refl, arith}
use Rattle.std.proofs.lemmas.Option.{slice_get_past}
use Rattle.shgrammar.specs.declared.token.Token.TheVariants as tokens
use Rattle.shgrammar.specs.Shows.{Shows}
use Rattle.shgrammar.specs.Standing.{at_end, continues, raw_stands}
use Rattle.shgrammar.proofs.Stretches.{joined_none}

-- at the end of the text the token shown is the end
pub end_shown : (T : List ℕ) (p : ℕ) → p ≡ length T → Shows tokens.End T p
unfolding at_end continues raw_stands
end_shown T p is =
    let none : slice_get T p ≡ None = slice_get_past T p (omega (arith, is)) in record {
      word = λ e. absurd cc;
      read = λ e. absurd cc;
      newline = λ e. absurd cc;
      ending = λ e. rw none refl;
      and_or = λ o e. absurd cc;
      no_comment = λ e. rw none refl;
      not_continued = joined_none T p (rw none refl);
      pattern = λ e. absurd cc;
      item_end = λ e. absurd cc;
      long = λ o e. absurd cc;
      strip = λ o e. absurd cc;
      here = λ o e. absurd cc;
    }
