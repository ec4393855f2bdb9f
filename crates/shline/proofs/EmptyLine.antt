-- An empty line: a newline alone.
use Rattle.std.proofs.Common.{◌≡◌, ℕ, ◌+◌, Bool, true, false, List, [], ◌∷◌, Ok, Some, None, Option, slice_get, drop, refl, sym, ap, subst, ◌∙◌, arith}
use Rattle.shgrammar.specs.Characters.{newline_char}
use Rattle.shgrammar.specs.declared.keep.Keep.{Keep}
use Rattle.shgrammar.specs.Bytes.{is_broken_at, past_blanks, past_byte, past_continuations}
use Rattle.shgrammar.specs.Commands.{next_token, nothing_waits, a_comment}
use Rattle.shgrammar.specs.Comments.{comment_at}
use Rattle.shgrammar.specs.declared.token.Next.{Next}
use Rattle.shgrammar.specs.declared.token.Token.TheVariants.{Newline}
use Rattle.shgrammar.specs.Levels.{level, most_open}
use Rattle.shgrammar.proofs.Turns.{no_entries}
use Rattle.shgrammar.proofs.Stretches.{get_drop, joined_none}
use Rattle.shgrammar.proofs.Unbroken.{blanks_whole}
use Rattle.shgrammar.specs.HereDocuments.{bodies_from}
use Rattle.shgrammar.specs.Lines.{a_line, an_open_line, end_of_line}
use Rattle.shgrammar.specs.Lists.{a_remark, list_so_far, none_listed, on_line}
use Rattle.shgrammar.specs.Scripts.{line_told}
use Rattle.shgrammar.specs.Sights.{given, standing}
use Rattle.shgrammar.specs.Standing.{continues, count_front, raw_in, raw_past, raw_stands}
use Rattle.shgrammar.specs.Tokens.{token_at}
use Rattle.shast.specs.Bodies.{filled_row}
use Rattle.shgrammar.specs.declared.edition.Edition.{Edition}

-- a newline token, before which no continuation stands
newline_first : Next
newline_first = record { token = Newline; broken = false }

-- before a newline at the front no blank stands, and no continuation
place : (U : List ℕ) → past_blanks (10 ∷ U) 0 ≡ 0
unfolding raw_past count_front continues raw_stands
place U = blanks_whole (10 ∷ U) 0 refl

joins : (U : List ℕ) → past_continuations (10 ∷ U) 0 ≡ 0
unfolding continues raw_stands
joins U = joined_none (10 ∷ U) 0 refl

-- the newline is read as one byte
next : (U : List ℕ) → past_byte (10 ∷ U) 0 ≡ 1
unfolding past_byte
next U = ap (λ n. n + 1) (joins U)

-- a text that begins with a newline has no entry on its first line, which ends after that
pub empty_line_told : (edition : Edition) (U : List ℕ) (keep : Keep) (blank : Bool) (o : ℕ) →
    line_told edition (10 ∷ U) keep blank 0 o ≡ Ok (([], true), standing 1)
unfolding a_line an_open_line nothing_waits filled_row next_token on_line a_remark a_comment end_of_line token_at
    comment_at raw_stands raw_in raw_past count_front continues is_broken_at bodies_from newline_first
empty_line_told edition U keep blank o =
    let none = no_entries (level most_open) (list_so_far (none_listed blank) newline_first) keep
    (given edition (10 ∷ U) o)
    (standing 0) refl in
    rw (place U, joins U, none, next U) refl

-- the byte, or 0 where there is none
value : Option ℕ → ℕ
value None = 0
value (Some b) = b

-- the same of a text whose first byte is told to be a newline
begun : (edition : Edition) (T : List ℕ) (keep : Keep) (blank : Bool) (o : ℕ) → slice_get T 0 ≡ Some 10 →
    line_told edition T keep blank 0 o ≡ Ok (([], true), standing 1)
unfolding value
begun edition [] keep blank o is = absurd cc
begun edition (b ∷ U) keep blank o is =
    let newline : b ≡ 10 = ap value is in
    subst (λ c. line_told edition (c ∷ U) keep blank 0 o ≡ Ok (([], true), standing 1)) (sym newline)
    (empty_line_told edition U keep blank o)

-- a newline is the first byte of the line at p
pub newline_told : (edition : Edition) (B : List ℕ) (p : ℕ) (keep : Keep) (blank : Bool) (o : ℕ) →
    slice_get B p ≡ Some 10 → line_told edition B keep blank p o ≡ Ok (([], true), standing 1)
newline_told edition B p keep blank o first =
    let here : p + 0 ≡ p = omega arith in
    begun edition (drop p B) keep blank o (get_drop p B 0 ∙ ap (slice_get B) here ∙ first)

-- it is the last byte of that line
pub newline_stands : (B : List ℕ) (p : ℕ) → slice_get B p ≡ Some 10 → raw_stands (drop p B) 0 newline_char ≡ true
unfolding raw_stands
newline_stands B p first =
    let here : p + 0 ≡ p = omega arith in
    rw (get_drop p B 0 ∙ ap (slice_get B) here ∙ first) refl
