-- A line that stands elsewhere is the line by itself, with all that it names moved;
-- and only its first entry tells whether it is blank.
use Rattle.std.proofs.Common.{◌≡◌, ℕ, ◌+◌, Bool, true, false, not, ◌&&◌, Ok, Err, List, List as Row, [], ◌∷◌, ◌++◌, map, drop, Option, Some, None, option_map, is_some, refl, sym, ap, subst, ◌∙◌, arith}
use Rattle.std.proofs.lemmas.List.{map-append}
use Rattle.std.proofs.Math.Bool.{and-false, and-true}
use Rattle.shgrammar.specs.declared.keep.Keep.TheVariants.{Outer, Whole}
use Rattle.shast.specs.declared.tree.Span.{Span}
use Rattle.shast.specs.Bodies.{fill_entry, fill_row, filled_row}
use Rattle.shast.specs.Tree.{AnAndOr, AnEntry, entry, command, remark}
use Rattle.shgrammar.specs.declared.token.Next.{Next}
use Rattle.shgrammar.specs.declared.token.Separator.{Separator}
use Rattle.shgrammar.specs.declared.token.Separator.TheVariants.{Semicolon, Ampersand}
use Rattle.shgrammar.specs.Sights.{given, State, standing}
use Rattle.shgrammar.specs.Form.{Form, Read, push, both, does}
use Rattle.shgrammar.specs.Words.{Inner}
use Rattle.shgrammar.specs.Commands.{is_empty, ASeparator, is_background, past_separator, Entered, an_entry}
use Rattle.shgrammar.specs.Lists.{Listed, ListSoFar, list_so_far, none_listed, is_blank_next, with_command, with_remark, one_entry, entry_turn, remark_by, a_remark, on_line}
use Rattle.shgrammar.specs.Levels.{most_open, level}
use Rattle.shgrammar.specs.Lines.{end_of_line, an_open_line, a_line}
use Rattle.shgrammar.specs.Scripts.{line_told, the_line}
use Rattle.shast.specs.Moved.{placed_entry, blanked_entry, blanked_row, carried_content}
use Rattle.shgrammar.specs.Moved.{SameBy, LineMoves}
use Rattle.shgrammar.proofs.Turns.{Stepped}
use Rattle.shgrammar.proofs.Moved.{Place, Any, same, on_first, step, Like, Moves, kept, kept_grows, moves_give, moves_then, moves_pick, moves_level, moves_many, moves_newline}
use Rattle.shgrammar.proofs.MovedBodies.{row_moved}
use Rattle.shgrammar.proofs.MovedTrees.{pushed_some, span_to, body_to, offset_to, and_or_to, entry_to}
use Rattle.shgrammar.proofs.MovedWords.{InnerMoves, moves_next, moves_comment, moves_unexpected}
use Rattle.shgrammar.proofs.MovedCommands.{is_some_map, moves_if, moves_nothing_waits, moves_and_or, parted_to, moves_separator}
use Rattle.shgrammar.proofs.MovedSubstitutions.{moves_inner}
use Rattle.shgrammar.specs.declared.edition.Edition.{Edition}

-- ---- the first entry of a row

-- an entry is blank, or it is not
abbrev BlankIs : Bool → AnEntry → Type 0
BlankIs blank (entry what background b comment) = b ≡ blank

-- a row takes the bodies of its level alike, whether its first entry is blank or not
blanked_fill : (pale : Bool) (bs : Row Span) (es : Row AnEntry) →
    filled_row bs (blanked_row pale es) ≡ blanked_row pale (filled_row bs es)
unfolding filled_row fill_row fill_entry
blanked_fill pale [] es = refl
blanked_fill pale (b ∷ bs) [] = refl
blanked_fill pale (b ∷ bs) (entry what background blank comment ∷ es) = refl

module _ (k : ℕ) (deep : Bool) where
  -- an entry that is not the first of its line is not blank
  not_blank : (pale blank : Bool) (e : AnEntry) → BlankIs (blank && false) e →
      blanked_entry (pale && false) (entry_to k deep e) ≡ entry_to k deep e
  not_blank pale blank (entry what background b comment) is =
      ap (λ (c : Bool). entry (carried_content (span_to k) (body_to k) deep what) background c
      (option_map (span_to k) comment)) (and-false pale ∙ sym (is ∙ and-false blank))

  -- a row that was moved, with one more entry, of which only the first may be blank
  row_pushed : (pale blank begun : Bool) (xs : Row AnEntry) (e : AnEntry) → begun ≡ not (is_empty xs) →
      BlankIs (blank && not begun) e
      → blanked_row pale (map (entry_to k deep) xs) ++ blanked_entry (pale && not begun) (entry_to k deep e) ∷ []
      ≡ blanked_row pale (map (entry_to k deep) (xs ++ e ∷ []))
  row_pushed pale blank false [] e begins is =
      ap (λ (b : Bool). blanked_entry b (entry_to k deep e) ∷ []) (and-true pale)
  row_pushed pale blank true [] e begins is = absurd cc
  row_pushed pale blank false (x ∷ xs) e begins is = absurd cc
  row_pushed pale blank true (x ∷ xs) e begins is =
      ap (λ (ys : Row AnEntry). blanked_entry pale (entry_to k deep x) ∷ ys)
      (ap (λ (y : AnEntry). map (entry_to k deep) xs ++ y ∷ []) (not_blank pale blank e is)
      ∙ sym (map-append (entry_to k deep) xs (e ∷ [])))

-- one more element, of whatever rows
push_on : {z : Place} {A Y : Type 0} {d : Y → Y} {Q : Y → Type 0} {xs ys : Row A} {x y : A} {f h : Row A → Form Y} →
    Moves z d Q (f (xs ++ x ∷ [])) (h (ys ++ y ∷ []))
    → Moves z d Q (both (push xs x) f) (both (push ys y) h)
push_on {z = z} rest = record { like = λ s. rw (kept_grows z.deep) (rest.like s) }

module _ (z : Place) (inner : Inner) (fits : InnerMoves z inner) where
  -- how far things move, and whether the trees in command substitutions are kept
  abbrev k : ℕ
  k = z.base

  abbrev deep : Bool
  deep = z.deep

  -- the end of a line is read there as it is by itself
  moves_end : (n : Next) → Moves z same Any (end_of_line inner n) (end_of_line inner n)
  unfolding end_of_line
  moves_end n =
      moves_pick _ (moves_newline same Any _ _ (moves_give refl tt))
      (moves_pick _ (moves_then (moves_nothing_waits z) (λ u so. moves_give refl tt)) (moves_unexpected z inner fits n))

  -- ---- a line elsewhere, where its first entry may be blank

  module _ (pale : Bool) where
    -- an entry that was read, moved, and blank or not
    abbrev entered_as : Bool → Entered → Entered
    entered_as b e = record {
      entry = blanked_entry b (entry_to k deep e.entry);
      parted = option_map (offset_to k) e.parted;
      next = e.next;
    }

    -- so one is made of parts that were moved
    entered_is : (a : AnAndOr) (s : Option ASeparator) (blank b : Bool) (c : Option Span) (n : Next)
        → record {
          entry = entry (command (and_or_to k deep a)) (is_background (parted_to z s)) b
              (option_map (span_to k) c);
          parted = past_separator (parted_to z s);
          next = n;
        }
        ≡ entered_as b (record {
          entry = entry (command a) (is_background s) blank c;
          parted = past_separator s;
          next = n;
        })
    entered_is a None blank b c n = refl
    entered_is a (Some (s, p)) blank b c n = by_kind s
      where
        by_kind : (t : Separator) → record {
          entry =
              entry (command (and_or_to k deep a)) (is_background (Some (t, k + p))) b (option_map (span_to k) c);
          parted = Some (k + p);
          next = n;
        }
            ≡ entered_as b (record {
              entry = entry (command a) (is_background (Some (t, p))) blank c;
              parted = Some p;
              next = n;
            })
        by_kind Semicolon = refl
        by_kind Ampersand = refl

    -- an entry is read there as it is by itself, moved, and blank where that is told
    entry_as : (blank b : Bool) (n : Next) →
        Moves z (entered_as b) (λ e. BlankIs blank e.entry) (an_entry inner blank n) (an_entry inner b n)
    unfolding an_entry
    entry_as blank b n =
        moves_then (moves_and_or z inner fits n)
        (λ a ends. moves_then (moves_separator z a.1)
        (λ s so. moves_then (moves_comment z s.1) (λ c all. moves_give (entered_is a.0 s.0 blank b c.0 c.1) refl)))

    -- the entries so far, moved, the first of them blank or not
    abbrev listed_as : Listed → Listed
    listed_as l = record {
      entries = blanked_row pale (map (entry_to k deep) l.entries);
      blank = pale;
      begun = l.begun;
      commands = l.commands;
      parted = option_map (offset_to k) l.parted;
    }

    abbrev list_as : ListSoFar → ListSoFar
    list_as l = list_so_far (listed_as l.list) l.next

    -- all entries stand on this line
    abbrev OneLine : ListSoFar → Type 0
    OneLine l = l.list.begun ≡ not (is_empty l.list.entries)

    -- a row with one more entry is not empty
    more_begun : (xs : Row AnEntry) (x : AnEntry) → true ≡ not (is_empty (xs ++ x ∷ []))
    more_begun xs x = sym (ap not (pushed_some xs x))

    -- one more entry, or none
    one_entry_as : (l : ListSoFar) → OneLine l →
        Moves z (step list_as) (Stepped OneLine) (one_entry inner l) (one_entry inner (list_as l))
    unfolding one_entry
    one_entry_as l begins =
        moves_then (entry_as (is_blank_next l.list) (pale && not l.list.begun) l.next) (λ e is. push_on
        (moves_if (is_some e.parted) (is_some (option_map (offset_to k) e.parted))
        (is_some_map (offset_to k) e.parted) _ _
        (ap (λ es. list_so_far (with_command (listed_as l.list) es (option_map (offset_to k) e.parted)) e.next)
        (row_pushed k deep pale l.list.blank l.list.begun l.list.entries e.entry begins is))
        (more_begun l.list.entries e.entry)))

    entry_turn_as : (l : ListSoFar) → OneLine l →
        Moves z (step list_as) (Stepped OneLine) (entry_turn inner l) (entry_turn inner (list_as l))
    unfolding entry_turn
    entry_turn_as l begins = moves_pick _ (one_entry_as l begins) (moves_give refl begins)

    -- a comment that stands for itself, or none
    remark_as : (l : ListSoFar) (c : Option Span) (n : Next) → OneLine l →
        Moves z list_as OneLine (remark_by l (c, n)) (remark_by (list_as l) (option_map (span_to k) c, n))
    remark_as l (Some c) n begins =
        let e : AnEntry = entry (remark c) false (is_blank_next l.list) None in
        push_on (moves_give (ap (λ es. list_so_far (with_remark (listed_as l.list) es) n)
        (row_pushed k deep pale l.list.blank l.list.begun l.list.entries e begins refl))
        (more_begun l.list.entries e))
    remark_as l None n begins = moves_give refl begins

    a_remark_as : (l : ListSoFar) → OneLine l → Moves z list_as OneLine (a_remark l) (a_remark (list_as l))
    unfolding a_remark
    a_remark_as l begins = moves_then (moves_comment z l.next) (λ x so. remark_as l x.0 x.1 begins)

    -- the entries and the comment of one line
    on_line_as : (l : ListSoFar) → OneLine l → Moves z list_as OneLine (on_line inner l) (on_line inner (list_as l))
    unfolding on_line
    on_line_as l begins = moves_then
        (moves_many list_as OneLine OneLine (entry_turn inner) (entry_turn inner) entry_turn_as (λ m so. so) l begins)
        (λ m so. a_remark_as m so)

    -- the entries of a line, moved, the first of them blank or not
    abbrev pub row_as : Row AnEntry → Row AnEntry
    row_as es = blanked_row pale (map (entry_to k deep) es)

    -- so a line is read there, without the bodies of its here-documents and with them
    open_line_as : (blank : Bool) →
        Moves z (on_first {Y = Bool} row_as) Any (an_open_line inner blank) (an_open_line inner pale)
    unfolding an_open_line
    open_line_as blank =
        moves_then (moves_next z _) (λ n so. moves_then (on_line_as (list_so_far (none_listed blank) n) refl)
        (λ l all. moves_then (moves_end l.next) (λ newline so2. moves_give refl tt)))

    pub line_as : (blank : Bool) → Moves z (on_first {Y = Bool} row_as) Any (a_line inner blank) (a_line inner pale)
    unfolding a_line
    line_as blank =
        moves_then (moves_level (open_line_as blank))
        (λ l so. moves_give (ap (λ (es : Row AnEntry). (es, l.0.1))
        (blanked_fill pale (map (body_to k) l.1) (map (entry_to k deep) l.0.0)
        ∙ ap (blanked_row pale) (row_moved (span_to k) (body_to k) deep l.1 l.0.0))) tt)

-- ---- the lines of a script

-- outcomes that are alike but for the move are those of a line by itself and at p
same_line : (deep : Bool) (p : ℕ) (blank : Bool) (x y : Read (Row AnEntry × Bool)) →
    Like p (on_first {Y = Bool} (λ es. blanked_row blank (map (placed_entry deep p) es))) Any x y →
    SameBy deep p blank y x
same_line _ p blank (Ok ((es, newline), s)) (Ok ((fs, ended), t)) like = (
  ap (λ (v : Row AnEntry × Bool). v.0) like.0,
  ap (λ (v : Row AnEntry × Bool). v.1) like.0,
  ap (λ (v : State). v.at) like.1,
)
same_line _ p blank (Ok x) (Err f) like = absurd like
same_line _ p blank (Err e) (Ok y) like = absurd like
same_line _ p blank (Err e) (Err f) like = like

-- a line at p and that line by itself, with the trees in command substitutions or without them
moved_by : (edition : Edition) → (deep : Bool) (B : List ℕ) (p : ℕ) (blank : Bool) →
    SameBy deep p blank (line_told edition B (kept deep) blank p p) (line_told edition B Whole false p 0)
moved_by edition deep B p blank =
    let z : Place = record { text = drop p B; offset = 0; edition = edition; base = p; deep = deep } in
    let none : p + 0 ≡ p = omega arith in
    subst (λ (o : ℕ). SameBy deep p blank (does (the_line blank) (kept deep) (given edition (drop p B) o) (standing 0))
    (does (the_line false) Whole (given edition (drop p B) 0) (standing 0))) none
    (same_line deep p blank _ _ ((line_as z (level most_open) (moves_inner z most_open) blank false).like (standing 0)))

-- so a line at p has the entries of that line by itself, moved
pub line_moved : (edition : Edition) → (B : List ℕ) → LineMoves edition B
line_moved edition B p blank = moved_by edition true B p blank

-- the same without the trees in command substitutions
pub line_outer : (edition : Edition) → (B : List ℕ) (p : ℕ) (blank : Bool) →
    SameBy false p blank (line_told edition B Outer blank p p) (line_told edition B Whole false p 0)
line_outer edition B p blank = moved_by edition false B p blank
