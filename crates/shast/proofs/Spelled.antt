-- The spelling of scripts as they are written, one for each form of a command: a law ties what is read to the
-- definition, and these rows tie the definition to texts.
use Rattle.std.proofs.Common.{◌≡◌, refl, ℕ, false, true, None, Some, [], ◌∷◌, codes}
use Rattle.shast.specs.declared.tree.Span.{Span}
use Rattle.shast.specs.declared.tree.AndOrOperator.TheVariants.{And, Or}
use Rattle.shast.specs.declared.tree.RedirectOperator.{RedirectOperator}
use Rattle.shast.specs.declared.tree.RedirectOperator.TheVariants.{Input, Output, Here, Append, DuplicateInput, DuplicateOutput, ReadWrite, HereStripped, Clobber}
use Rattle.shast.specs.Tree.{AJoin, Entries, no_entry, more_entries, AnEntry, entry, command, remark, and_or, no_and_or, more_and_or, APipeline, pipeline, no_pipe, more_pipes, ACommand, simple, compound, function, formed, AForm, brace, subshell, if_then, while_do, until_do, for_in, case_in, branch, otherwise, no_in, in_words, case_item, no_item, AnItem, item, assign, argument, redirect, AWord, word, no_subst, subst, items_of, branches_of, cases_of, patterns_of, substs_of}
use Rattle.shast.specs.Shape.{bare, shape_of}
use Rattle.shast.specs.Spelling.{spelling}

-- ---- parts of trees

-- the span from p up to q
abbrev at : ℕ → ℕ → Span
at p q = record { start = p; «end» = q }

-- spelling does not look there
abbrev nowhere : Span
nowhere = at 0 0

-- a join that nothing breaks, without comments
abbrev join : AJoin
join = record { broken = false; comments = [] }

-- a word, an item and a command, by the places of one word
abbrev a_word : ℕ → ℕ → AWord
a_word p q = word (at p q) no_subst

abbrev a_name : ℕ → ℕ → AnItem
a_name p q = item false (argument (a_word p q))

abbrev a_command : ℕ → ℕ → ACommand
a_command p q = simple (items_of (a_name p q ∷ []))

-- a redirection without a number, by its operator and the places of its word
abbrev to : RedirectOperator → ℕ → ℕ → AnItem
to operator p q = item false (redirect None operator nowhere (a_word p q) None)

-- a compound command without redirections
abbrev a_compound : AForm → ACommand
a_compound form = compound (formed form nowhere no_item)

-- one command as a pipeline, as an entry and as a list
abbrev alone : ACommand → APipeline
alone c = pipeline None c no_pipe

abbrev an_entry : ACommand → AnEntry
an_entry c = entry (command (and_or (alone c) no_and_or)) false false None

abbrev list_of : ACommand → Entries
list_of c = more_entries (an_entry c) no_entry

-- a list of one word
abbrev a_list : ℕ → ℕ → Entries
a_list p q = list_of (a_command p q)

-- ---- scripts

-- commands that are joined, in the background
joined :
    spelling (shape_of (codes "! a=1 b | c && d || e &")
    (more_entries (entry (command
    (and_or (pipeline (Some nowhere) (simple (items_of (item false (assign (a_word 2 5)) ∷ a_name 6 7 ∷ [])))
    (more_pipes join (a_command 10 11) no_pipe))
    (more_and_or And join (alone (a_command 15 16)) (more_and_or Or join (alone (a_command 20 21)) no_and_or)))) true
    false None) no_entry))
    ≡ codes "!" ∷ codes "a=1" ∷ codes "b" ∷ codes "|" ∷ codes "c" ∷ codes "&&" ∷ codes "d" ∷ codes "||" ∷ codes "e"
    ∷ codes "&" ∷ []
joined = refl

-- groups; a comment is no token
grouped :
    spelling (shape_of (codes "{ a; } # b\n(c)")
    (more_entries (an_entry (a_compound (brace (a_list 2 3))))
    (more_entries (entry (remark nowhere) false false None) (list_of (a_compound (subshell (a_list 12 13)))))))
    ≡ codes "{" ∷ codes "a" ∷ codes "}" ∷ codes "(" ∷ codes "c" ∷ codes ")" ∷ []
grouped = refl

-- conditions
chosen :
    spelling (shape_of (codes "if a; then b; elif c; then d; else e; fi")
    (list_of (a_compound (if_then (branch (a_list 3 4) (a_list 11 12))
    (branches_of (branch (a_list 19 20) (a_list 27 28) ∷ [])) (otherwise (a_list 35 36))))))
    ≡ codes "if" ∷ codes "a" ∷ codes "then" ∷ codes "b" ∷ codes "elif" ∷ codes "c" ∷ codes "then" ∷ codes "d"
    ∷ codes "else" ∷ codes "e" ∷ codes "fi" ∷ []
chosen = refl

-- loops
repeated :
    spelling (shape_of (codes "while a; do b; done; until c; do d; done")
    (more_entries (an_entry (a_compound (while_do (branch (a_list 6 7) (a_list 12 13)))))
    (list_of (a_compound (until_do (branch (a_list 27 28) (a_list 33 34)))))))
    ≡ codes "while" ∷ codes "a" ∷ codes "do" ∷ codes "b" ∷ codes "done" ∷ codes "until" ∷ codes "c" ∷ codes "do"
    ∷ codes "d" ∷ codes "done" ∷ []
repeated = refl

-- a `for` with words, and one without `in`
for_each :
    spelling (shape_of (codes "for a in b c; do d; done; for e do f; done")
    (more_entries (an_entry (a_compound
    (for_in (a_word 4 5) (in_words (items_of (a_name 9 10 ∷ a_name 11 12 ∷ []))) (a_list 17 18))))
    (list_of (a_compound (for_in (a_word 30 31) no_in (a_list 35 36))))))
    ≡ codes "for" ∷ codes "a" ∷ codes "in" ∷ codes "b" ∷ codes "c" ∷ codes "do" ∷ codes "d" ∷ codes "done" ∷ codes "for"
    ∷ codes "e" ∷ codes "do" ∷ codes "f" ∷ codes "done" ∷ []
for_each = refl

-- neither the round bracket before a pattern nor `;;`; `;&` is a token
matched :
    spelling (shape_of (codes "case a in (b|c) d;& *) e;; *) esac")
    (list_of (a_compound (case_in (a_word 5 6)
    (cases_of (case_item [] (patterns_of (a_word 11 12 ∷ a_word 13 14 ∷ [])) (a_list 16 17)
    (record { mark = nowhere; falls = true })
    ∷ case_item [] (patterns_of (a_word 20 21 ∷ [])) (a_list 23 24) (record { mark = nowhere; falls = false })
    ∷ case_item [] (patterns_of (a_word 27 28 ∷ [])) no_entry (record { mark = nowhere; falls = false }) ∷ [])) []))))
    ≡ codes "case" ∷ codes "a" ∷ codes "in" ∷ codes "b" ∷ codes "|" ∷ codes "c" ∷ codes ")" ∷ codes "d" ∷ codes ";&"
    ∷ codes "*" ∷ codes ")" ∷ codes "e" ∷ codes "*" ∷ codes ")" ∷ codes "esac" ∷ []
matched = refl

-- functions
named :
    spelling (shape_of (codes "f() { a; } >b")
    (list_of (function (at 0 1) [] (formed (brace (a_list 6 7)) nowhere (items_of (to Output 12 13 ∷ []))))))
    ≡ codes "f" ∷ codes "(" ∷ codes ")" ∷ codes "{" ∷ codes "a" ∷ codes "}" ∷ codes ">" ∷ codes "b" ∷ []
named = refl

-- a number by its bare text, a word as it stands
redirected :
    spelling (shape_of (codes "a 1\\\n2<\"$(b)\" >c >>d <&e >&f <>g >|h <<i <<-j")
    (list_of (simple (items_of (a_name 0 1
    ∷ item false (redirect (Some (at 2 6)) Input nowhere
    (word (at 7 13) (substs_of (subst (a_list 10 11) nowhere ∷ []))) None)
    ∷ to Output 15 16 ∷ to Append 19 20 ∷ to DuplicateInput 23 24 ∷ to DuplicateOutput 27 28 ∷ to ReadWrite 31 32
    ∷ to Clobber 35 36 ∷ to Here 39 40 ∷ to HereStripped 44 45 ∷ [])))))
    ≡ codes "a" ∷ codes "12" ∷ codes "<" ∷ codes "\"$(b)\"" ∷ codes ">" ∷ codes "c"
    ∷ codes ">>" ∷ codes "d" ∷ codes "<&" ∷ codes "e" ∷ codes ">&" ∷ codes "f" ∷ codes "<>" ∷ codes "g" ∷ codes ">|"
    ∷ codes "h" ∷ codes "<<" ∷ codes "i" ∷ codes "<<-" ∷ codes "j" ∷ []
unfolding bare
redirected = refl
