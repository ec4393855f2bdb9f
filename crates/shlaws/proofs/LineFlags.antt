-- The entries that are read on one line: the first has the flag of the line, and no other is blank.
use Rattle.std.proofs.Common.{◌≡◌, ℕ, Bool, true, false, not, List as Row, [], ◌∷◌, ◌++◌, Option, Some, None, Ok, is_some, refl, sym, ap, subst, ◌∙◌, append_assoc, append-nil}
use Rattle.std.specs.Prelude.{◌&&◌, ◌||◌}
use Rattle.std.proofs.lemmas.Bool.{or_right}
use Rattle.std.proofs.Math.Bool.{and-false, and-true, or-false}
use Rattle.shast.specs.Normal.{is_blank_entry}
use Rattle.shast.specs.Tree.{AnEntry}
use Rattle.shast.specs.declared.tree.Span.{Span}
use Rattle.shgrammar.specs.Commands.{an_entry, begins_pipeline, is_empty}
use Rattle.shgrammar.specs.Form.{Form, Spelled, Step, again, done, may, step_if}
use Rattle.shgrammar.specs.Levels.{level}
use Rattle.shgrammar.specs.Lists.{ListSoFar, Listed, a_remark, entry_turn, is_blank_next, list_so_far, list_turn, next_line, on_line, one_entry, remark_by, with_command}
use Rattle.shgrammar.specs.States.{Given, State}
use Rattle.shgrammar.specs.Words.{Inner}
use Rattle.shgrammar.specs.declared.keep.Keep.TheVariants.{Whole}
use Rattle.shgrammar.specs.declared.token.Next.{Next}
use Rattle.shgrammar.proofs.Holds.{Holds, Tells, Turned, after, gives, picked, pushed_on, tells_many, tells_then}
use Rattle.shgrammar.proofs.MovedTrees.{pushed_some}
use Rattle.shgrammar.proofs.OneOutcome.{computed_is_only}
use Rattle.shlaws.specs.Blank.{AreBlankAtFirst, HasMore}

-- ---- one entry more

-- with one entry more the first still has the flag of the line, and no other is blank
flag_more : (blank : Bool) (es : Row AnEntry) (e : AnEntry) → AreBlankAtFirst blank es
    → is_blank_entry e ≡ (blank && is_empty es) → AreBlankAtFirst blank (es ++ e ∷ [])
flag_more blank [] e flags is = (is ∙ and-true blank, tt)
flag_more blank (x ∷ xs) e flags is = (flags.0, flag_more false xs e flags.1 (is ∙ and-false blank))

-- of a line on which these entries stand
flag_of : (blank begun none : Bool) → (blank && not (begun || not none)) ≡ ((blank && not begun) && none)
flag_of true true true = refl
flag_of true true false = refl
flag_of true false true = refl
flag_of true false false = refl
flag_of false begun none = refl

-- before the first entry of a line is read, a list has none more
nothing_read : (l : Listed) → HasMore l l
nothing_read l = record {
  entries = [];
  all = sym (append-nil l.entries);
  flags = tt;
  begun = sym (or-false l.begun);
  blank = refl;
}

-- one entry more, which is blank where the list so far tells that of its next one
one_more : (before l m : Listed) (e : AnEntry) → HasMore before l → is_blank_entry e ≡ is_blank_next l
    → m.entries ≡ l.entries ++ e ∷ [] → m.begun ≡ true → m.blank ≡ l.blank → HasMore before m
one_more before l m e so flag all begun blank =
    let es = so.entries in
    let next : is_blank_next l ≡ (is_blank_next before && is_empty es) =
    rw (so.blank, so.begun) (flag_of before.blank before.begun (is_empty es)) in
    let some : not (is_empty (es ++ e ∷ [])) ≡ true = ap not (pushed_some es e) in
    record {
      entries = es ++ e ∷ [];
      all = all ∙ ap (λ r. r ++ e ∷ []) so.all ∙ append_assoc before.entries es (e ∷ []);
      flags = flag_more (is_blank_next before) es e so.flags (flag ∙ next);
      begun = begun ∙ sym (or_right before.begun (not (is_empty (es ++ e ∷ []))) some);
      blank = blank ∙ so.blank;
    }

-- ---- as rows read them

module _ (inner : Inner) (g : Given) (before : Listed) where
  -- P holds of what the form gives from s on, with its whole tree
  abbrev T : {X : Type 0} → Form X → (X → State → Type 0) → State → Type 0
  T r P s = Tells Whole g r P s

  -- the list so far has some entries of one line more than the one before
  abbrev So : ListSoFar → State → Type 0
  So l t = HasMore before l.list

  -- an entry is blank just where that is told before it
  told_flag : (blank : Bool) (n : Next) (s : State)
      → T (an_entry inner blank n) (λ e t. is_blank_entry e.entry ≡ blank) s
  unfolding an_entry
  told_flag blank n s =
      after
      (λ a t. after (λ z u. after (λ c v. gives refl)))

  -- what holds of a list holds after a turn, whether it is the last or not
  step_so : (goes : Bool) (l : ListSoFar) (t : State) → HasMore before l.list
      → Turned Whole g So (step_if goes l) t
  step_so true l t so = so
  step_so false l t so = so

  -- the list has some entries of this line more: after one entry, and after a turn, be there one or not
  entry_so : (l : ListSoFar) (s : State) → HasMore before l.list → T (one_entry inner l) (Turned Whole g So) s
  unfolding one_entry
  entry_so l s so =
      tells_then Whole g (told_flag (is_blank_next l.list) l.next s)
      (λ e t flag. pushed_on (gives (step_so (is_some e.parted) _ t
      (one_more before l.list
      (with_command l.list (l.list.entries ++ e.entry ∷ []) e.parted) e.entry so flag refl refl refl))))

  turn_so : (l : ListSoFar) (s : State) → HasMore before l.list → T (entry_turn inner l) (Turned Whole g So) s
  unfolding entry_turn
  turn_so l s so = picked (begins_pipeline l.next.token) (entry_so l s so) (gives so)

  -- after a comment that is an entry, or none
  remark_so : (l : ListSoFar) (x : Option Span × Next) (s : State) → HasMore before l.list
      → T (remark_by l x) So s
  remark_so l (Some c, n) s so =
      pushed_on (gives (one_more before l.list _ _ so refl refl refl refl))
  remark_so l (None, n) s so = gives so

  -- and after all of one line
  line_so : (l : ListSoFar) (s : State) → HasMore before l.list → T (on_line inner l) So s
  unfolding on_line a_remark
  line_so l s so =
      tells_then Whole g (tells_many Whole g (entry_turn inner) So turn_so l s so)
      (λ m t good. after (λ x u. remark_so m x u good))

  -- where a newline token ended the line: the list of that line, with the flag of the next one
  abbrev Parted : Step ListSoFar → State → Type 0
  Parted (again m) t = (line : Listed) × HasMore before line × (m.list ≡ next_line line)
  Parted (done m) t = Unit {0}

  -- so it is where a turn goes on by a test
  parted : (goes : Bool) (l : Listed) (n : Next) (t : State) → HasMore before l
      → Parted (step_if goes (list_so_far (next_line l) n)) t
  parted true l n t so = (l, so, refl)
  parted false l n t so = tt

  -- and after each turn over the lines of a list
  newline_so : (l : ListSoFar) (s : State) → HasMore before l.list → T (list_turn inner l) Parted s
  unfolding list_turn
  newline_so l s so =
      tells_then Whole g (line_so l s so)
      (λ m t good. after (λ x u. gives (parted x.0 m.list x.1 u good)))

-- what may be read of one line are entries: the first has the flag that the list tells, no other is blank
pub line_flags : (room : ℕ) (l m : ListSoFar) (g : Given) (s t : State) (told : Row Spelled)
    → may (on_line (level room) l) g s (Ok (m, t)) told → HasMore l.list m.list
line_flags room l m g s t told part =
    let read = (computed_is_only (on_line (level room) l) g s).only _ _ part in
    subst (Holds (λ (n : ListSoFar) (u : State). HasMore l.list n.list)) (sym read)
    (line_so (level room) g l.list l s (nothing_read l.list)).told

-- and after a newline token that ends it the flag of the next line is told
pub newline_flags : (room : ℕ) (l m : ListSoFar) (g : Given) (s t : State) (told : Row Spelled)
    → may (list_turn (level room) l) g s (Ok (again m, t)) told
    → (line : Listed) × HasMore l.list line × (m.list ≡ next_line line)
newline_flags room l m g s t told part =
    let read = (computed_is_only (list_turn (level room) l) g s).only _ _ part in
    subst (Holds (Parted (level room) g l.list)) (sym read)
    (newline_so (level room) g l.list l s (nothing_read l.list)).told
