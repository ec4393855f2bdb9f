-- A newline token after an entry ends its line, and each further one makes the next entry blank.
use Rattle.std.proofs.Common.{◌≡◌, ◌↔◌, ℕ, zero, suc, ◌+◌, ◌≤◌, Bool, true, false, not, List as Row, [], ◌∷◌, ◌++◌, Option, refl, sym, ap, ◌∙◌, arith}
use Rattle.std.specs.Prelude.{◌&&◌}
use Rattle.std.proofs.Math.Bool.{and-false, and-true}
use Rattle.shast.specs.Tree.{AnEntry}
use Rattle.shgrammar.specs.Commands.{is_empty}
use Rattle.shgrammar.specs.Lists.{Listed, is_blank_next, next_line, none_listed, with_command, with_remark}
use Rattle.shgrammar.specs.Scripts.{LinesSoFar, is_blank_line, nothing_yet, with_line}
use Rattle.shgrammar.proofs.MovedTrees.{pushed_some}
use Rattle.shlaws.specs.Blank.{past_empty_lines, past_newlines}

-- ---- lists

-- newline tokens add no entry to a list
same_entries : (n : ℕ) (l : Listed) → (past_newlines n l).entries ≡ l.entries
same_entries zero l = refl
same_entries (suc n) l = same_entries n l

-- after an entry of this line
pub after_entry : (l : Listed) (n : ℕ) → l.begun ≡ true → is_empty l.entries ≡ false
    → (is_blank_next (past_newlines n l) ≡ true) ↔ (2 ≤ n)
after_entry l zero begun some =
    let no : is_blank_next l ≡ false = rw begun (and-false l.blank) in
    (λ is. absurd (let both : true ≡ false = sym is ∙ no in cc), λ le. absurd (omega arith))
after_entry l (suc zero) begun some =
    let no : is_blank_next (next_line l) ≡ false = rw begun refl in
    (λ is. absurd (let both : true ≡ false = sym is ∙ no in cc), λ le. absurd (omega arith))
after_entry l (suc (suc n)) begun some = (λ is. omega arith, λ le. rw (same_entries n l, some) refl)

-- before the first entry of a list no newline tokens make it blank
pub before_all : (n : ℕ) → is_blank_next (past_newlines n (none_listed false)) ≡ false
before_all zero = refl
before_all (suc n) =
    let begun = (past_newlines n (none_listed false)).begun in
    rw (same_entries n (none_listed false)) (and-true (not begun && false) ∙ and-false (not begun))

-- after a command, and after a comment, the next entry is blank just where 2 newline tokens or more follow
pub after_command : (l : Listed) (es : Row AnEntry) (e : AnEntry) (parted : Option ℕ) (n : ℕ)
    → (is_blank_next (past_newlines n (with_command l (es ++ e ∷ []) parted)) ≡ true) ↔ (2 ≤ n)
after_command l es e parted n = after_entry (with_command l (es ++ e ∷ []) parted) n refl (pushed_some es e)

pub after_remark : (l : Listed) (es : Row AnEntry) (e : AnEntry) (n : ℕ)
    → (is_blank_next (past_newlines n (with_remark l (es ++ e ∷ []))) ≡ true) ↔ (2 ≤ n)
after_remark l es e n = after_entry (with_remark l (es ++ e ∷ [])) n refl (pushed_some es e)

-- ---- scripts

-- after lines without entries a script has entries just where it had some before
same_so_far : (n : ℕ) (so : LinesSoFar) → is_empty (past_empty_lines n so).entries ≡ is_empty so.entries
same_so_far zero so = refl
same_so_far (suc n) so = nothing_more (past_empty_lines n so).entries ∙ same_so_far n so
  where
    nothing_more : (es : Row AnEntry) → is_empty (es ++ []) ≡ is_empty es
    nothing_more [] = refl
    nothing_more (x ∷ xs) = refl

-- a row is not empty that ends in one that is not empty
some_then : (one more : Row AnEntry) → is_empty more ≡ false → is_empty (one ++ more) ≡ false
some_then [] more some = some
some_then (x ∷ xs) more some = refl

-- after a line with entries, and n without, the next entry is blank just where n + 1 is 2 or more
pub after_line : (so : LinesSoFar) (es : Row AnEntry) (e : AnEntry) (n : ℕ)
    → (is_blank_line (past_empty_lines n (with_line so (es ++ e ∷ []))) ≡ true) ↔ (2 ≤ n + 1)
after_line so es e zero =
    let no : is_blank_line (with_line so (es ++ e ∷ [])) ≡ false = rw (pushed_some es e) refl in
    (λ is. absurd (let both : true ≡ false = sym is ∙ no in cc), λ le. absurd (omega arith))
after_line so es e (suc n) =
    let l : LinesSoFar = with_line so (es ++ e ∷ []) in
    let some : is_empty (past_empty_lines (suc n) l).entries ≡ false =
    same_so_far (suc n) l ∙ some_then so.entries (es ++ e ∷ []) (pushed_some es e) in
    (λ is. omega arith, λ le. ap not some)

-- no lines without entries make the first entry of a script blank
pub no_line_before : (n : ℕ) → is_blank_line (past_empty_lines n nothing_yet) ≡ false
no_line_before zero = refl
no_line_before (suc n) = ap not (same_so_far (suc n) nothing_yet)

-- the first entry of a line is blank just where that is told before the line
pub first_blank_told : (blank : Bool) → is_blank_next (none_listed blank) ≡ blank
first_blank_told true = refl
first_blank_told false = refl
