-- What came of an edit.
use Rattle.std.proofs.Common.{◌≡◌, ◌-◌, ◌<◌, ◌++◌, [], ◌∷◌, false, true, true≢false, List, List as Row, ℕ, None, Some, Result, Ok, Err, IfErr, IfOk, OnOk, ap, append_assoc, arith, is_err, length, refl, sym, subst, ◌∙◌}
use Rattle.shtext.specs.Edit.{ASplice}
use Rattle.shlive.specs.Ahead.{Ahead, StopsAfter, StopsBy, TakesBytes}
use Rattle.shlive.specs.Parts.{Comes, Hold, IsInSplice, TakesSplice, after_bytes, request_by}
use Rattle.shlive.specs.Requests.{Parser, asks, edit, edit_alone, first_line, flawed, more_parts, next_by_part, part_by_line, part_of_line, splice_by, unfinished, with_bytes}
use Rattle.shlive.specs.Lines.{IsInLine}
use Rattle.shlive.specs.Turns.{Spells}
use Rattle.shlive.specs.declared.incoming.InputEnd.{InputEnd}
use Rattle.shlive.specs.declared.request_kind.Part.{Part}
use Rattle.shlive.specs.declared.parts.Flaw.{Flaw}
use Rattle.shlive.specs.declared.parts.Flaw.TheVariants.{NoPart}
use Rattle.shlive.specs.declared.parts.Parts.{Parts}
use Rattle.shlive.proofs.Asked.{parts_on}
use Rattle.shlive.proofs.InLine.{line_ends, line_open}

-- an edit, or its flaw
pub after_is : (came : Result (Unit {0}) Flaw) (ss : Row ASplice) (rest : List ℕ) →
    after_bytes came (asks (edit ss)) rest ≡ asks (request_by came ss) rest
after_is (Ok whole) ss rest = refl
after_is (Err flaw) ss rest = refl

-- what is so in any case is so where no flaw came
pub some_if : (came : Result (Unit {0}) Flaw) (P : Type 0) → P → OnOk came P
some_if (Ok whole) P p = p
some_if (Err flaw) P p = tt

module _ (part : Part) (old new : Ahead) (before after : Parts) (len : ℕ) (none : Hold before len []) where
  -- one splice
  pub comes_alone : (r : Result (Result (Unit {0}) Flaw) InputEnd) → OnOk r (new.failed ≡ false)
      → IfOk r (TakesSplice part before after old new) → IfErr r (StopsAfter (IsInSplice part) old new)
      → Comes (with_bytes part edit_alone) old new after len r
  comes_alone (Ok came) sound is cut =
      let ss : Row ASplice = splice_by part is.bytes ∷ [] in
      record {
        taken = is.taken;
        splices = ss;
        some = some_if came (0 < length ss) (omega arith);
        takes = is.takes;
        spelled = λ rest. is.spelled edit_alone rest ∙ after_is came ss rest;
        held = is.held len [] none;
        sound = sound;
      }
  comes_alone (Err stop) sound is cut = (cut.0, cut.1 edit_alone, cut.2, cut.3)

-- a flaw ends an edit, and none goes on with it
pub after_flaw : (came : Result (Unit {0}) Flaw) (ss : Row ASplice) (next : Parser) (rest : List ℕ) → is_err came ≡ true
    → after_bytes came next rest ≡ asks (request_by came ss) rest
after_flaw (Ok whole) ss next rest is = absurd (true≢false (sym is))
after_flaw (Err flaw) ss next rest is = refl

-- where a flaw came, nothing is said of an edit without one
pub none_if : (came : Result (Unit {0}) Flaw) (P : Type 0) → is_err came ≡ true → OnOk came P
none_if (Ok whole) P is = absurd (true≢false (sym is))
none_if (Err flaw) P is = tt

-- where none came, the edit goes on with what is next
pub after_whole : (came : Result (Unit {0}) Flaw) (next : Parser) (rest : List ℕ) → is_err came ≡ false →
    after_bytes came next rest ≡ next rest
after_whole (Ok whole) next rest is = refl
after_whole (Err flaw) next rest is = absurd (true≢false is)

-- the input ended in an edit
pub comes_cut : (parser : Parser) (old new : Ahead) (parts : Parts) (len : ℕ)
    (r : Result (Result (Unit {0}) Flaw) InputEnd) (e stop : InputEnd) → r ≡ Err e → e ≡ stop
    → (taken : List ℕ) → TakesBytes old new taken → parser taken ≡ unfinished → StopsBy new stop →
    Comes parser old new parts len r
comes_cut parser old new parts len r e stop is same taken takes cut stops =
    subst (Comes parser old new parts len) (sym is) (taken, cut, takes, subst (StopsBy new) (sym same) stops)

-- ---- one part more

module _ (count left : ℕ) (ss : Row ASplice) (taken : List ℕ)
    (goes : (rest : List ℕ) → more_parts count [] (taken ++ rest) ≡ more_parts left ss rest) (more : 0 < left)
    (text : List ℕ) (inline : IsInLine text) where
  -- after a splice come the parts that are left then
  abbrev pub next : ASplice → Parser
  next s = more_parts (left - 1) (ss ++ s ∷ [])

  -- what was taken up to the newline of the next part's line
  abbrev line : List ℕ
  line = taken ++ (text ++ 10 ∷ [])

  -- what follows the parts so far is the line of a part, and what that goes on with
  here : (rest : List ℕ) → more_parts count [] (taken ++ rest) ≡ part_by_line next (first_line rest)
  here rest = goes rest ∙ parts_on left ss rest more

  -- where no newline ends that line, the batch is cut off
  pub cut_in_line : more_parts count [] (taken ++ text) ≡ unfinished
  cut_in_line = here text ∙ ap (part_by_line next) (line_open text inline)

  -- where one does, the line tells a part or a flaw
  by_line : (rest : List ℕ) → more_parts count [] (line ++ rest) ≡ next_by_part (part_of_line text) next rest
  by_line rest = ap (more_parts count []) (append_assoc taken (text ++ 10 ∷ []) rest) ∙ here ((text ++ 10 ∷ []) ++ rest)
      ∙ ap (part_by_line next) (line_ends text rest inline)

  -- a line that is no part is a flaw
  pub no_part : None ≡ part_of_line text → (rest : List ℕ) →
      more_parts count [] (line ++ rest) ≡ asks (flawed NoPart) rest
  no_part is rest = by_line rest ∙ ap (λ p. next_by_part p next rest) (sym is)

  module _ (part : Part) (is : Some part ≡ part_of_line text) where
    -- after the line of a part come the bytes of its splice
    through : (rest : List ℕ) → more_parts count [] (line ++ rest) ≡ with_bytes part next rest
    through rest = by_line rest ∙ ap (λ p. next_by_part p next rest) (sym is)

    -- where they are cut off, so is the batch
    pub cut_in_bytes : (bytes : List ℕ) → with_bytes part next bytes ≡ unfinished →
        more_parts count [] (line ++ bytes) ≡ unfinished
    cut_in_bytes bytes cut = through bytes ∙ cut

    -- and what they spell, they spell in the batch
    pub came_on : (bytes : List ℕ) (come : Parser) → Spells (with_bytes part next) bytes come → (rest : List ℕ) →
        more_parts count [] ((line ++ bytes) ++ rest) ≡ come rest
    came_on bytes come spells rest = ap (more_parts count []) (append_assoc line bytes rest) ∙ through (bytes ++ rest)
        ∙ spells rest
