-- The shapes of scripts as they are written: a row for each place that holds a text or a mark. What follows
-- looks at shapes alone, and these rows tie them to texts.
use Rattle.std.proofs.Common.{◌≡◌, refl, ℕ, false, true, None, Some, [], ◌∷◌, codes}
use Rattle.shast.specs.declared.tree.Span.{Span}
use Rattle.shast.specs.declared.tree.AndOrOperator.TheVariants.{And, Or}
use Rattle.shast.specs.declared.tree.RedirectOperator.TheVariants.{Input, Output, Here, HereStripped}
use Rattle.shast.specs.Tree.{EntriesOf, more_entries, entry, command, remark, and_or, no_and_or, more_and_or, APipelineOf, pipeline, no_pipe, more_pipes, ACommandOf, ACommand, simple, compound, function, formed, AFormOf, brace, subshell, if_then, while_do, until_do, for_in, case_in, branch, no_else, otherwise, no_in, in_words, case_item, no_item, AnItemOf, item, assign, argument, redirect, AWordOf, word, no_subst, subst, items_of, branches_of, cases_of, patterns_of, substs_of}
use Rattle.shast.specs.Normal.{alone, of_command}
use Rattle.shast.specs.Shape.{Shape, bare, shape_of}

-- ---- parts of trees and of shapes

-- the span from p up to q
abbrev at : ℕ → ℕ → Span
at p q = record { start = p; «end» = q }

-- a list of one command; and of one text a word, an item, a command, a list and a pipeline
abbrev one : {T M : Type 0} → ACommandOf T M → EntriesOf T M
one c = alone (of_command c)

abbrev a_word : {T M : Type 0} → T → AWordOf T M
a_word t = word t no_subst

abbrev a_name : {T M : Type 0} → T → AnItemOf T M
a_name t = item false (argument (a_word t))

abbrev a_command : {T M : Type 0} → T → ACommandOf T M
a_command t = simple (items_of (a_name t ∷ []))

abbrev a_list : {T M : Type 0} → T → EntriesOf T M
a_list t = one (a_command t)

abbrev a_pipeline : {T M : Type 0} → T → APipelineOf T M
a_pipeline t = pipeline None (a_command t) no_pipe

-- compound commands, and where they stand
abbrev over : AFormOf Span Span → ℕ → ℕ → ACommand
over form p q = compound (formed form (at p q) no_item)

-- and their shapes
abbrev formed_as : Shape AFormOf → Shape ACommandOf
formed_as form = compound (formed form tt no_item)

-- ---- simple commands

-- a word as it stands, with the continuation in it, and whether one stands before it
continued :
    shape_of (codes "a\\\nb \\\nc")
    (one (simple (items_of (a_name (at 0 4) ∷ item true (argument (a_word (at 7 8))) ∷ []))))
    ≡ one (simple (items_of (a_name (codes "a\\\nb") ∷ item true (argument (a_word (codes "c"))) ∷ [])))
continued = refl

-- an assignment by its whole text
assigned :
    shape_of (codes "a=1 b") (one (simple (items_of (item false (assign (a_word (at 0 3))) ∷ a_name (at 4 5) ∷ []))))
    ≡ one (simple (items_of (item false (assign (a_word (codes "a=1"))) ∷ a_name (codes "b") ∷ [])))
assigned = refl

-- a word keeps its substitutions beside its text
substituted :
    shape_of (codes "a$(b)$(c)") (one
    (simple (items_of (item false
    (argument (word (at 0 9) (substs_of
    (subst (a_list (at 3 4)) (at 1 5) ∷ subst (a_list (at 7 8)) (at 5 9) ∷ [])))) ∷ []))))
    ≡ one (simple (items_of (item false
    (argument (word (codes "a$(b)$(c)")
    (substs_of (subst (a_list (codes "b")) tt ∷ subst (a_list (codes "c")) tt ∷ [])))) ∷ [])))
substituted = refl

-- a number without the continuation in it
redirected :
    shape_of (codes "1\\\n2<a >b")
    (one (simple (items_of (item false (redirect (Some (at 0 4)) Input (at 4 5) (a_word (at 5 6)) None)
    ∷ item false (redirect None Output (at 7 8) (a_word (at 8 9)) None) ∷ []))))
    ≡ one (simple (items_of (item false (redirect (Some (codes "12")) Input tt (a_word (codes "a")) None)
    ∷ item false (redirect None Output tt (a_word (codes "b")) None) ∷ [])))
unfolding bare
redirected = refl

-- the bodies of here-documents as they stand, in one of them nothing is expanded, of
-- the other tabs are taken off
documented :
    shape_of (codes "<<'a' <<-b\nc\\\n\na\n\td\nb\n")
    (one (simple (items_of (item false
    (redirect None Here (at 0 2) (a_word (at 2 5))
    (Some (record { literal = true; strip = false; body = at 11 15 }))) ∷
    item false (redirect None HereStripped (at 6 9) (a_word (at 9 10))
    (Some (record { literal = false; strip = true; body = at 17 20 }))) ∷ []))))
    ≡ one (simple (items_of (item false
    (redirect None Here tt (a_word (codes "'a'"))
    (Some (record { literal = true; strip = false; body = codes "c\\\n\n" }))) ∷
    item false (redirect None HereStripped tt (a_word (codes "b"))
    (Some (record { literal = false; strip = true; body = codes "\td\n" }))) ∷ [])))
documented = refl

-- ---- what joins commands

-- that a `!` stands there, operators, and the comments of joins
joined :
    shape_of (codes "! a |\n# b\nc && # d\ne || f")
    (alone (entry (command (and_or
    (pipeline (Some (at 0 1)) (a_command (at 2 3))
    (more_pipes (record { broken = true; comments = at 6 9 ∷ [] }) (a_command (at 10 11)) no_pipe))
    (more_and_or And (record { broken = true; comments = at 15 18 ∷ [] }) (a_pipeline (at 19 20))
    (more_and_or Or (record { broken = false; comments = [] }) (a_pipeline (at 24 25)) no_and_or)))) false false
    None))
    ≡ alone (entry (command (and_or
    (pipeline (Some tt) (a_command (codes "a"))
    (more_pipes (record { broken = true; comments = codes "# b" ∷ [] }) (a_command (codes "c")) no_pipe))
    (more_and_or And (record { broken = true; comments = codes "# d" ∷ [] }) (a_pipeline (codes "e"))
    (more_and_or Or (record { broken = false; comments = [] }) (a_pipeline (codes "f")) no_and_or)))) false false
    None)
joined = refl

-- the comment after a command, one on a line of its own, the background and the empty line
listed :
    shape_of (codes "a & # b\n\n# c\n\nd")
    (more_entries (entry (command (and_or (a_pipeline (at 0 1)) no_and_or)) true false (Some (at 4 7)))
    (more_entries (entry (remark (at 9 12)) false true None)
    (alone (entry (command (and_or (a_pipeline (at 14 15)) no_and_or)) false true None))))
    ≡ more_entries (entry (command (and_or (a_pipeline (codes "a")) no_and_or)) true false (Some (codes "# b")))
    (more_entries (entry (remark (codes "# c")) false true None)
    (alone (entry (command (and_or (a_pipeline (codes "d")) no_and_or)) false true None)))
listed = refl

-- ---- functions and compound commands

-- the name as it stands, the comment before the body, and the redirections after it
named :
    shape_of (codes "f\\\ng() # a\n{ b; } >c")
    (one (function (at 0 4) (at 7 10 ∷ [])
    (formed (brace (a_list (at 13 14))) (at 11 17)
    (items_of (item false (redirect None Output (at 18 19) (a_word (at 19 20)) None) ∷ [])))))
    ≡ one (function (codes "f\\\ng") (codes "# a" ∷ [])
    (formed (brace (a_list (codes "b"))) tt
    (items_of (item false (redirect None Output tt (a_word (codes "c")) None) ∷ []))))
named = refl

-- the list of a subshell
grouped :
    shape_of (codes "(a)") (one (over (subshell (a_list (at 1 2))) 0 3))
    ≡ one (formed_as (subshell (a_list (codes "a"))))
grouped = refl

-- the lists of an `if`: conditions, what they run, and what `else` runs
chosen :
    shape_of (codes "if a; then b; elif c; then d; else e; fi")
    (one (over (if_then (branch (a_list (at 3 4)) (a_list (at 11 12)))
    (branches_of (branch (a_list (at 19 20)) (a_list (at 27 28)) ∷ [])) (otherwise (a_list (at 35 36)))) 0 40))
    ≡ one (formed_as (if_then (branch (a_list (codes "a")) (a_list (codes "b")))
    (branches_of (branch (a_list (codes "c")) (a_list (codes "d")) ∷ [])) (otherwise (a_list (codes "e")))))
chosen = refl

-- an `if` without `elif` and `else`
chosen_alone :
    shape_of (codes "if a; then b; fi")
    (one (over (if_then (branch (a_list (at 3 4)) (a_list (at 11 12))) (branches_of []) no_else) 0 16))
    ≡ one (formed_as (if_then (branch (a_list (codes "a")) (a_list (codes "b"))) (branches_of []) no_else))
chosen_alone = refl

-- the condition and the body of a `while` and of an `until`
repeated :
    shape_of (codes "while a; do b; done; until c; do d; done")
    (more_entries (of_command (over (while_do (branch (a_list (at 6 7)) (a_list (at 12 13)))) 0 19))
    (one (over (until_do (branch (a_list (at 27 28)) (a_list (at 33 34)))) 21 40)))
    ≡ more_entries (of_command (formed_as (while_do (branch (a_list (codes "a")) (a_list (codes "b"))))))
    (one (formed_as (until_do (branch (a_list (codes "c")) (a_list (codes "d"))))))
repeated = refl

-- the name of a for, and its words where they stand
for_each :
    shape_of (codes "for a in b c; do d; done; for e do f; done")
    (more_entries (of_command (over
    (for_in (a_word (at 4 5)) (in_words (items_of (a_name (at 9 10) ∷ a_name (at 11 12) ∷ []))) (a_list (at 17 18)))
    0 24))
    (one (over (for_in (a_word (at 30 31)) no_in (a_list (at 35 36))) 26 42)))
    ≡ more_entries (of_command (formed_as
    (for_in (a_word (codes "a")) (in_words (items_of (a_name (codes "b") ∷ a_name (codes "c") ∷ [])))
    (a_list (codes "d")))))
    (one (formed_as (for_in (a_word (codes "e")) no_in (a_list (codes "f")))))
for_each = refl

-- the word of a case, the comments before an item and after the last, and patterns
matched :
    shape_of (codes "case a in # b\n(c|d) e;&\n# f\nesac")
    (one (over (case_in (a_word (at 5 6))
    (cases_of (case_item (at 10 13 ∷ []) (patterns_of (a_word (at 15 16) ∷ a_word (at 17 18) ∷ []))
    (a_list (at 20 21)) (record { mark = at 14 23; falls = true }) ∷ [])) (at 24 27 ∷ [])) 0 32))
    ≡ one (formed_as (case_in (a_word (codes "a"))
    (cases_of (case_item (codes "# b" ∷ []) (patterns_of (a_word (codes "c") ∷ a_word (codes "d") ∷ []))
    (a_list (codes "e")) (record { mark = tt; falls = true }) ∷ [])) (codes "# f" ∷ [])))
matched = refl
