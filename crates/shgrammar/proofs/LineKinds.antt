-- What a line is, by its entries; the line at the end of a text, and the script without a byte.
use Rattle.std.proofs.Common.{◌≡◌, ℕ, ◌<◌, Bool, true, false, List, [], ◌∷◌, None, length, map, drop, cond, refl, sym, subst, arith}
use Rattle.std.proofs.Math.Seq.{drop-length}
use Rattle.shast.specs.Tree.{AnEntry, entries_of}
use Rattle.shgrammar.specs.Standing.{count_front, raw_stands}
use Rattle.shgrammar.specs.Bytes.{past, past_below, past_blanks, past_continuations, count_joined}
use Rattle.shgrammar.specs.Tokens.{token_at}
use Rattle.shgrammar.specs.Comments.{comment_at}
use Rattle.shgrammar.specs.Form.{many, turns, turns_below}
use Rattle.shgrammar.specs.Commands.{next_token, nothing_waits, a_comment}
use Rattle.shgrammar.specs.Lines.{AKind, FaultWithin, blank_line, end_line, entries_line, kind_of, end_of_line, an_open_line, a_line}
use Rattle.shast.specs.Bodies.{filled_row}
use Rattle.shgrammar.specs.Lists.{entry_turn, a_remark, on_line}
use Rattle.shgrammar.specs.Scripts.{line_of_text, script_at, script_below, script_on}
use Rattle.shgrammar.specs.declared.edition.Edition.{Edition}

-- a line without entries is blank where it has a newline, or the end; one that has some is told by them
pub kind_of_none : {X : Type 0} (view : X → AnEntry) (xs : List X) (newline : Bool) → length xs ≡ 0 →
    kind_of (map view xs) newline ≡ cond newline blank_line end_line
kind_of_none view [] true e = refl
kind_of_none view [] false e = refl
kind_of_none view (x ∷ xs) newline e = absurd (omega arith)

pub kind_of_some : {X : Type 0} (view : X → AnEntry) (xs : List X) (newline : Bool) → 0 < length xs →
    kind_of (map view xs) newline ≡ entries_line (entries_of (map view xs))
kind_of_some view [] newline lt = absurd (omega arith)
kind_of_some view (x ∷ xs) newline lt = refl

-- a line that is told by its entries has no fault
none_within : (limit : ℕ) (es : List AnEntry) (newline : Bool) → FaultWithin limit (kind_of es newline)
none_within limit [] true = tt
none_within limit [] false = tt
none_within limit (e ∷ es) newline = tt

-- a line without fault has none that could lie after it
pub no_fault_within : (limit : ℕ) (kind : AKind) (es : List AnEntry) (newline : Bool) → kind ≡ kind_of es newline →
    FaultWithin limit kind
no_fault_within limit kind es newline is = subst (FaultWithin limit) (sym is) (none_within limit es newline)

-- a text without a byte has the line of its end
nothing : (edition : Edition) → line_of_text edition [] ≡ record { kind = end_line; next = 0; ended = false }
unfolding line_of_text a_line an_open_line nothing_waits filled_row next_token on_line many turns turns_below entry_turn
    a_remark a_comment end_of_line token_at comment_at raw_stands past count_front past_blanks past_continuations
    count_joined past_below
nothing edition = refl

-- at the length nothing is left to read
pub nothing_left : (edition : Edition) → (B : List ℕ) (at : ℕ) → at ≡ length B →
    line_of_text edition (drop at B) ≡ record { kind = end_line; next = 0; ended = false }
nothing_left edition B at e = rw (e, drop-length B) (nothing edition)

-- the empty text is the script without entries
nothing_at_all : (edition : Edition) → script_at edition [] ≡ record { entries = entries_of []; fault = None }
unfolding script_at script_on script_below a_line an_open_line nothing_waits filled_row next_token on_line many turns
    turns_below entry_turn a_remark a_comment end_of_line token_at comment_at raw_stands past count_front past_blanks
    past_continuations count_joined past_below
nothing_at_all edition = refl

-- a script without a byte has no entry and no fault
pub nothing_read : (edition : Edition) → (B : List ℕ) → length B ≡ 0 →
    script_at edition B ≡ record { entries = entries_of []; fault = None }
nothing_read edition [] e = nothing_at_all edition
nothing_read edition (b ∷ B) e = absurd (omega arith)
