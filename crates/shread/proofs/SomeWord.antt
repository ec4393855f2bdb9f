-- Where no byte ends words, the row of a word reads one byte at least.
use Rattle.std.proofs.Common.{◌≡◌, ℕ, ◌+◌, ◌<◌, false, List, Option, None, Some, length, refl, arith}
use Rattle.std.proofs.lemmas.Option.{slice_get_within}
use Rattle.std.specs.Prelude.{slice_get}
use Rattle.shgrammar.specs.Bytes.{byte_at, ends, ends_word, past_continuations}
use Rattle.shgrammar.specs.Levels.{ReadsWord}
use Rattle.shgrammar.specs.Sights.{Given}
use Rattle.shgrammar.proofs.Places.{word_longer}
use Rattle.shgrammar.proofs.Stretches.{place_low}
use Rattle.shgrammar.proofs.WordsWithin.{word_ends}

-- where what is at c ends no word, a byte stands there
byte_within : (T : List ℕ) (c : ℕ) (x : Option ℕ) → slice_get T c ≡ x → ends x ≡ false → c < length T
byte_within T c None is e = absurd cc
byte_within T c (Some b) is e = slice_get_within T c b is

-- a word that is read where none ends has a byte at least
pub some_read : (room p n : ℕ) (g : Given) → ReadsWord room g p n → ends_word g.text p ≡ false → 0 < n
unfolding ends_word
some_read room p n g is no_end =
    let within = byte_within g.text (past_continuations g.text p) (byte_at g.text p) refl no_end in
    let low = place_low g.text p in
    let longer = word_longer g.text p (p + n) (omega arith) no_end
    (word_ends room g p n is (omega (arith, within, low))).1 in
    omega (arith, longer)
