-- Two copies of a list whose spans are carried: the one of the other, and two that
-- make the same of each span that there is.
use Rattle.std.proofs.Common.{true, ◌≡◌, ℕ, zero, suc, ◌+◌, ◌-◌, ◌≤◌, ◌<◌, List as Row, [], ◌∷◌, map, Option, Some, None, option_map, refl, sym, ap, ◌∙◌, arith, min}
use Rattle.std.specs.Prelude.{◌^◌}
use Rattle.std.proofs.Math.Nat.{min-eq_left}
use Rattle.shast.specs.declared.tree.Span.{Span}
use Rattle.shast.specs.Tree.{AJoin, AHere, Entries, no_entry, more_entries, AnEntry, entry, AContent, command, remark, AnAndOr, and_or, AndOrParts, no_and_or, more_and_or, APipeline, pipeline, PipelineParts, no_pipe, more_pipes, ACommand, simple, compound, function, ACompound, formed, AForm, brace, subshell, if_then, while_do, until_do, for_in, case_in, ABranch, branch, Branches, no_branch, more_branches, Otherwise, no_else, otherwise, ForWords, no_in, in_words, CaseItems, no_case, more_cases, ACaseItem, case_item, Patterns, no_pattern, more_patterns, Items, no_item, more_items, AnItem, item, AnItemContent, assign, argument, redirect, AWord, word, Substs, no_subst, more_substs, ASubst, subst}
use Rattle.shast.specs.Nodes.{IsSpanWithin, placed_span}
use Rattle.shast.specs.Moved.{carried, carried_and_or, carried_and_or_parts, carried_branch, carried_branches, carried_case, carried_cases, carried_command, carried_compound, carried_content, carried_else, carried_entry, carried_for_words, carried_form, carried_here, carried_item, carried_item_content, carried_items, carried_join, carried_patterns, carried_pipeline, carried_pipes, carried_subst, carried_substs, carried_word, moved, body_by, placed_body}
use Rattle.shast.specs.Everywhere.{SpansWithin, OfSome, OfEach, OfHere, Throughout, InEntry, InContent, InAndOr, InAndOrParts, InPipeline, InPipes, InCommand, InCompound, InForm, InBranch, InBranches, InElse, InForWords, InCases, InCase, InPatterns, InItems, InItem, InItemContent, InWord, InSubsts, InSubst}
use Rattle.shast.specs.Capped.{capped, capped_body, capped_by}

-- ---- what f makes of what h makes of a span, where g makes it of each span of which P holds; and fb, hb and
-- gb of a body

module _ (f h g fb hb gb : Span → Span) (P : Span → Type 0) (Q : Items → Type 0) (is : (s : Span) → P s → f (h s) ≡ g s)
    (body_is : (s : Span) → P s → fb (hb s) ≡ gb s) where
  -- For each kind of part: what f makes of what h makes of it is what g makes of it.

  -- carried by h and then by f, a span that may be missing, a row of comments, a join, and a here-document
  -- that may be missing are as g carries them
  some_over : (c : Option Span) → OfSome P c → option_map f (option_map h c) ≡ option_map g c
  some_over None so = refl
  some_over (Some s) so = ap Some (is s so)

  each_over : (cs : Row Span) → OfEach P cs → map f (map h cs) ≡ map g cs
  each_over [] so = refl
  each_over (c ∷ cs) so = rw (is c so.0, each_over cs so.1) refl

  join_over : (j : AJoin) → OfEach P j.comments → carried_join f fb (carried_join h hb j) ≡ carried_join g gb j
  join_over j so = ap (λ (cs : Row Span). record { broken = j.broken; comments = cs }) (each_over j.comments so)

  here_over : (d : Option AHere) → OfHere P d →
      option_map (carried_here f fb) (option_map (carried_here h hb) d) ≡ option_map (carried_here g gb) d
  here_over None so = refl
  here_over (Some d) so = ap (λ (s : Span). Some (record { literal = d.literal; strip = d.strip; body = s }))
      (body_is d.body so)

  mutual
    -- carried by h and then by f, a list is as g carries it, and so are an entry and what stands in it
    pub over : (es : Entries) → Throughout P Q es → carried f fb true (carried h hb true es) ≡ carried g gb true es
    over no_entry so = refl
    over (more_entries e es) so = rw (entry_over e so.0, over es so.1) refl

    entry_over : (e : AnEntry) → InEntry P Q e →
        carried_entry f fb true (carried_entry h hb true e) ≡ carried_entry g gb true e
    entry_over (entry what background blank comment) so = rw (content_over what so.0, some_over comment so.1) refl

    content_over : (c : AContent) → InContent P Q c →
        carried_content f fb true (carried_content h hb true c) ≡ carried_content g gb true c
    content_over (command a) so = ap command (and_or_over a so)
    content_over (remark c) so = ap remark (is c so)

    -- carried by h and then by f, an and-or list and a pipeline are as g carries them, with the parts after
    -- their first operand
    and_or_over : (a : AnAndOr) → InAndOr P Q a →
        carried_and_or f fb true (carried_and_or h hb true a) ≡ carried_and_or g gb true a
    and_or_over (and_or first rest) so = rw (pipeline_over first so.0, and_or_parts_over rest so.1) refl

    and_or_parts_over : (ps : AndOrParts) → InAndOrParts P Q ps →
        carried_and_or_parts f fb true (carried_and_or_parts h hb true ps) ≡ carried_and_or_parts g gb true ps
    and_or_parts_over no_and_or so = refl
    and_or_parts_over (more_and_or operator join p ps) so =
        rw (join_over join so.0, pipeline_over p so.1, and_or_parts_over ps so.2) refl

    pipeline_over : (p : APipeline) → InPipeline P Q p →
        carried_pipeline f fb true (carried_pipeline h hb true p) ≡ carried_pipeline g gb true p
    pipeline_over (pipeline bang first rest) so =
        rw (some_over bang so.0, command_over first so.1, pipes_over rest so.2) refl

    pipes_over : (cs : PipelineParts) → InPipes P Q cs →
        carried_pipes f fb true (carried_pipes h hb true cs) ≡ carried_pipes g gb true cs
    pipes_over no_pipe so = refl
    pipes_over (more_pipes join c cs) so = rw (join_over join so.0, command_over c so.1, pipes_over cs so.2) refl

    -- carried by h and then by f, a command, a compound command and a form of each kind are as g carries them
    command_over : (c : ACommand) → InCommand P Q c →
        carried_command f fb true (carried_command h hb true c) ≡ carried_command g gb true c
    command_over (simple items) so = ap simple (items_over items so.1)
    command_over (compound c) so = ap compound (compound_over c so)
    command_over (function name comments body) so =
        rw (is name so.0, each_over comments so.1, compound_over body so.2) refl

    compound_over : (c : ACompound) → InCompound P Q c →
        carried_compound f fb true (carried_compound h hb true c) ≡ carried_compound g gb true c
    compound_over (formed form span redirects) so =
        rw (form_over form so.0, is span so.1, items_over redirects so.2) refl

    form_over : (m : AForm) → InForm P Q m →
        carried_form f fb true (carried_form h hb true m) ≡ carried_form g gb true m
    form_over (brace es) so = ap brace (over es so)
    form_over (subshell es) so = ap subshell (over es so)
    form_over (if_then first rest other) so =
        rw (branch_over first so.0, branches_over rest so.1, else_over other so.2) refl
    form_over (while_do b) so = ap while_do (branch_over b so)
    form_over (until_do b) so = ap until_do (branch_over b so)
    form_over (for_in name words body) so = rw (word_over name so.0, for_words_over words so.1, over body so.2) refl
    form_over (case_in w cases tail) so = rw (word_over w so.0, cases_over cases so.1, each_over tail so.2) refl

    -- carried by h and then by f, a branch, the branches after it, an `else`, and the words of a `for` are as
    -- g carries them
    branch_over : (b : ABranch) → InBranch P Q b →
        carried_branch f fb true (carried_branch h hb true b) ≡ carried_branch g gb true b
    branch_over (branch condition body) so = rw (over condition so.0, over body so.1) refl

    branches_over : (bs : Branches) → InBranches P Q bs →
        carried_branches f fb true (carried_branches h hb true bs) ≡ carried_branches g gb true bs
    branches_over no_branch so = refl
    branches_over (more_branches b bs) so = rw (branch_over b so.0, branches_over bs so.1) refl

    else_over : (o : Otherwise) → InElse P Q o →
        carried_else f fb true (carried_else h hb true o) ≡ carried_else g gb true o
    else_over no_else so = refl
    else_over (otherwise es) so = ap otherwise (over es so)

    for_words_over : (ws : ForWords) → InForWords P Q ws →
        carried_for_words f fb true (carried_for_words h hb true ws) ≡ carried_for_words g gb true ws
    for_words_over no_in so = refl
    for_words_over (in_words items) so = ap in_words (items_over items so)

    -- carried by h and then by f, the items of a `case`, each of them, and its patterns are as g carries them
    cases_over : (cs : CaseItems) → InCases P Q cs →
        carried_cases f fb true (carried_cases h hb true cs) ≡ carried_cases g gb true cs
    cases_over no_case so = refl
    cases_over (more_cases c cs) so = rw (case_over c so.0, cases_over cs so.1) refl

    case_over : (c : ACaseItem) → InCase P Q c →
        carried_case f fb true (carried_case h hb true c) ≡ carried_case g gb true c
    case_over (case_item comments patterns body mark) so =
        rw (each_over comments so.0, patterns_over patterns so.1, over body so.2, is mark.mark so.3) refl

    patterns_over : (ws : Patterns) → InPatterns P Q ws →
        carried_patterns f fb true (carried_patterns h hb true ws) ≡ carried_patterns g gb true ws
    patterns_over no_pattern so = refl
    patterns_over (more_patterns w ws) so = rw (word_over w so.0, patterns_over ws so.1) refl

    -- carried by h and then by f, a row of items, each of them, and what it is are as g carries them
    items_over : (is2 : Items) → InItems P Q is2 →
        carried_items f fb true (carried_items h hb true is2) ≡ carried_items g gb true is2
    items_over no_item so = refl
    items_over (more_items i rest) so = rw (item_over i so.0, items_over rest so.1) refl

    item_over : (i : AnItem) → InItem P Q i →
        carried_item f fb true (carried_item h hb true i) ≡ carried_item g gb true i
    item_over (item broken what) so = ap (item broken) (item_content_over what so)

    item_content_over : (c : AnItemContent) → InItemContent P Q c →
        carried_item_content f fb true (carried_item_content h hb true c) ≡ carried_item_content g gb true c
    item_content_over (assign w) so = ap assign (word_over w so)
    item_content_over (argument w) so = ap argument (word_over w so)
    item_content_over (redirect number operator span w d) so =
        rw (some_over number so.0, is span so.1, word_over w so.2, here_over d so.3) refl

    -- carried by h and then by f, a word, its substitutions, and each of these are as g carries them
    word_over : (w : AWord) → InWord P Q w →
        carried_word f fb true (carried_word h hb true w) ≡ carried_word g gb true w
    word_over (word span substs) so = rw (is span so.0, substs_over substs so.1) refl

    substs_over : (ss : Substs) → InSubsts P Q ss →
        carried_substs f fb true (carried_substs h hb true ss) ≡ carried_substs g gb true ss
    substs_over no_subst so = refl
    substs_over (more_substs s ss) so = rw (subst_over s so.0, substs_over ss so.1) refl

    subst_over : (s : ASubst) → InSubst P Q s →
        carried_subst f fb true (carried_subst h hb true s) ≡ carried_subst g gb true s
    subst_over (subst entries span) so = rw (over entries so.0, is span so.1) refl

-- ---- where f leaves each span as it is, and fb each body

module _ (f fb : Span → Span) (is : (s : Span) → f s ≡ s) (body_is : (s : Span) → fb s ≡ s) where
  -- For each kind of part: it stays as it is.

  -- a span that may be missing stays as it is, and so do a row of comments, a join, and a here-document that
  -- may be missing
  some_same : (c : Option Span) → option_map f c ≡ c
  some_same None = refl
  some_same (Some s) = ap Some (is s)

  each_same : (cs : Row Span) → map f cs ≡ cs
  each_same [] = refl
  each_same (c ∷ cs) = rw (is c, each_same cs) refl

  join_same : (j : AJoin) → carried_join f fb j ≡ j
  join_same j = ap (λ (cs : Row Span). record { broken = j.broken; comments = cs }) (each_same j.comments)

  here_same : (d : Option AHere) → option_map (carried_here f fb) d ≡ d
  here_same None = refl
  here_same (Some d) = ap (λ (s : Span). Some (record { literal = d.literal; strip = d.strip; body = s }))
      (body_is d.body)

  mutual
    -- a list stays as it is, and so do an entry and what stands in it
    pub same : (es : Entries) → carried f fb true es ≡ es
    same no_entry = refl
    same (more_entries e es) = rw (entry_same e, same es) refl

    entry_same : (e : AnEntry) → carried_entry f fb true e ≡ e
    entry_same (entry what background blank comment) = rw (content_same what, some_same comment) refl

    content_same : (c : AContent) → carried_content f fb true c ≡ c
    content_same (command a) = ap command (and_or_same a)
    content_same (remark c) = ap remark (is c)

    -- an and-or list and a pipeline stay as they are, each with the parts after its first operand
    and_or_same : (a : AnAndOr) → carried_and_or f fb true a ≡ a
    and_or_same (and_or first rest) = rw (pipeline_same first, and_or_parts_same rest) refl

    and_or_parts_same : (ps : AndOrParts) → carried_and_or_parts f fb true ps ≡ ps
    and_or_parts_same no_and_or = refl
    and_or_parts_same (more_and_or operator join p ps) = rw (join_same join, pipeline_same p, and_or_parts_same ps) refl

    pipeline_same : (p : APipeline) → carried_pipeline f fb true p ≡ p
    pipeline_same (pipeline bang first rest) = rw (some_same bang, command_same first, pipes_same rest) refl

    pipes_same : (cs : PipelineParts) → carried_pipes f fb true cs ≡ cs
    pipes_same no_pipe = refl
    pipes_same (more_pipes join c cs) = rw (join_same join, command_same c, pipes_same cs) refl

    -- a command stays as it is, and so do a compound command and a form of each kind
    command_same : (c : ACommand) → carried_command f fb true c ≡ c
    command_same (simple items) = ap simple (items_same items)
    command_same (compound c) = ap compound (compound_same c)
    command_same (function name comments body) = rw (is name, each_same comments, compound_same body) refl

    compound_same : (c : ACompound) → carried_compound f fb true c ≡ c
    compound_same (formed form span redirects) = rw (form_same form, is span, items_same redirects) refl

    form_same : (m : AForm) → carried_form f fb true m ≡ m
    form_same (brace es) = ap brace (same es)
    form_same (subshell es) = ap subshell (same es)
    form_same (if_then first rest other) = rw (branch_same first, branches_same rest, else_same other) refl
    form_same (while_do b) = ap while_do (branch_same b)
    form_same (until_do b) = ap until_do (branch_same b)
    form_same (for_in name words body) = rw (word_same name, for_words_same words, same body) refl
    form_same (case_in w cases tail) = rw (word_same w, cases_same cases, each_same tail) refl

    -- a branch stays as it is, and so do the branches after it, an `else`, and the words of a `for`
    branch_same : (b : ABranch) → carried_branch f fb true b ≡ b
    branch_same (branch condition body) = rw (same condition, same body) refl

    branches_same : (bs : Branches) → carried_branches f fb true bs ≡ bs
    branches_same no_branch = refl
    branches_same (more_branches b bs) = rw (branch_same b, branches_same bs) refl

    else_same : (o : Otherwise) → carried_else f fb true o ≡ o
    else_same no_else = refl
    else_same (otherwise es) = ap otherwise (same es)

    for_words_same : (ws : ForWords) → carried_for_words f fb true ws ≡ ws
    for_words_same no_in = refl
    for_words_same (in_words items) = ap in_words (items_same items)

    -- the items of a `case` stay as they are, and so do each of them and its patterns
    cases_same : (cs : CaseItems) → carried_cases f fb true cs ≡ cs
    cases_same no_case = refl
    cases_same (more_cases c cs) = rw (case_same c, cases_same cs) refl

    case_same : (c : ACaseItem) → carried_case f fb true c ≡ c
    case_same (case_item comments patterns body mark) =
        rw (each_same comments, patterns_same patterns, same body, is mark.mark) refl

    patterns_same : (ws : Patterns) → carried_patterns f fb true ws ≡ ws
    patterns_same no_pattern = refl
    patterns_same (more_patterns w ws) = rw (word_same w, patterns_same ws) refl

    -- a row of items stays as it is, and so do each of them and what it is
    items_same : (is2 : Items) → carried_items f fb true is2 ≡ is2
    items_same no_item = refl
    items_same (more_items i rest) = rw (item_same i, items_same rest) refl

    item_same : (i : AnItem) → carried_item f fb true i ≡ i
    item_same (item broken what) = ap (item broken) (item_content_same what)

    item_content_same : (c : AnItemContent) → carried_item_content f fb true c ≡ c
    item_content_same (assign w) = ap assign (word_same w)
    item_content_same (argument w) = ap argument (word_same w)
    item_content_same (redirect number operator span w d) =
        rw (some_same number, is span, word_same w, here_same d) refl

    -- a word stays as it is, and so do its substitutions and each of these
    word_same : (w : AWord) → carried_word f fb true w ≡ w
    word_same (word span substs) = rw (is span, substs_same substs) refl

    substs_same : (ss : Substs) → carried_substs f fb true ss ≡ ss
    substs_same no_subst = refl
    substs_same (more_substs s ss) = rw (subst_same s, substs_same ss) refl

    subst_same : (s : ASubst) → carried_subst f fb true s ≡ s
    subst_same (subst entries span) = rw (same entries, is span) refl

-- ---- what holds of every span and of all items holds throughout

module _ (P : Span → Type 0) (Q : Items → Type 0) (p : (s : Span) → P s) (q : (items : Items) → Q items) where
  -- For each kind of part: P holds of each of its spans, and Q of the items of each simple command in it.

  -- P holds of a span that may be missing, of each comment of a row or a join, and of a here-document's body
  some_all : (c : Option Span) → OfSome P c
  some_all None = tt
  some_all (Some s) = p s

  each_all : (cs : Row Span) → OfEach P cs
  each_all [] = tt
  each_all (c ∷ cs) = (p c, each_all cs)

  join_all : (j : AJoin) → OfEach P j.comments
  join_all j = each_all j.comments

  here_all : (d : Option AHere) → OfHere P d
  here_all None = tt
  here_all (Some d) = p d.body

  mutual
    -- P and Q hold throughout a list, an entry, and what stands in it
    pub all : (es : Entries) → Throughout P Q es
    all no_entry = tt
    all (more_entries e es) = (entry_all e, all es)

    entry_all : (e : AnEntry) → InEntry P Q e
    entry_all (entry what background blank comment) = (content_all what, some_all comment)

    content_all : (c : AContent) → InContent P Q c
    content_all (command a) = and_or_all a
    content_all (remark c) = p c

    -- P and Q hold throughout an and-or list and a pipeline, and the parts after their first operand
    and_or_all : (a : AnAndOr) → InAndOr P Q a
    and_or_all (and_or first rest) = (pipeline_all first, and_or_parts_all rest)

    and_or_parts_all : (ps : AndOrParts) → InAndOrParts P Q ps
    and_or_parts_all no_and_or = tt
    and_or_parts_all (more_and_or operator join p ps) = (join_all join, pipeline_all p, and_or_parts_all ps)

    pipeline_all : (p : APipeline) → InPipeline P Q p
    pipeline_all (pipeline bang first rest) = (some_all bang, command_all first, pipes_all rest)

    pipes_all : (cs : PipelineParts) → InPipes P Q cs
    pipes_all no_pipe = tt
    pipes_all (more_pipes join c cs) = (join_all join, command_all c, pipes_all cs)

    -- P and Q hold throughout a command, a compound command, and a form of each kind
    command_all : (c : ACommand) → InCommand P Q c
    command_all (simple items) = (q items, items_all items)
    command_all (compound c) = compound_all c
    command_all (function name comments body) = (p name, each_all comments, compound_all body)

    compound_all : (c : ACompound) → InCompound P Q c
    compound_all (formed form span redirects) = (form_all form, p span, items_all redirects)

    form_all : (m : AForm) → InForm P Q m
    form_all (brace es) = all es
    form_all (subshell es) = all es
    form_all (if_then first rest other) = (branch_all first, branches_all rest, else_all other)
    form_all (while_do b) = branch_all b
    form_all (until_do b) = branch_all b
    form_all (for_in name words body) = (word_all name, for_words_all words, all body)
    form_all (case_in w cases tail) = (word_all w, cases_all cases, each_all tail)

    -- P and Q hold throughout a branch, the branches after it, an `else`, and the words of a `for`
    branch_all : (b : ABranch) → InBranch P Q b
    branch_all (branch condition body) = (all condition, all body)

    branches_all : (bs : Branches) → InBranches P Q bs
    branches_all no_branch = tt
    branches_all (more_branches b bs) = (branch_all b, branches_all bs)

    else_all : (o : Otherwise) → InElse P Q o
    else_all no_else = tt
    else_all (otherwise es) = all es

    for_words_all : (ws : ForWords) → InForWords P Q ws
    for_words_all no_in = tt
    for_words_all (in_words items) = items_all items

    -- P and Q hold throughout the items of a `case`, each of them, and its patterns
    cases_all : (cs : CaseItems) → InCases P Q cs
    cases_all no_case = tt
    cases_all (more_cases c cs) = (case_all c, cases_all cs)

    case_all : (c : ACaseItem) → InCase P Q c
    case_all (case_item comments patterns body mark) = (each_all comments, patterns_all patterns, all body, p mark.mark)

    patterns_all : (ws : Patterns) → InPatterns P Q ws
    patterns_all no_pattern = tt
    patterns_all (more_patterns w ws) = (word_all w, patterns_all ws)

    -- P and Q hold throughout a row of items, each of them, and what it is
    items_all : (is2 : Items) → InItems P Q is2
    items_all no_item = tt
    items_all (more_items i rest) = (item_all i, items_all rest)

    item_all : (i : AnItem) → InItem P Q i
    item_all (item broken what) = item_content_all what

    item_content_all : (c : AnItemContent) → InItemContent P Q c
    item_content_all (assign w) = word_all w
    item_content_all (argument w) = word_all w
    item_content_all (redirect number operator span w d) = (some_all number, p span, word_all w, here_all d)

    -- P and Q hold throughout a word, its substitutions, and each of these
    word_all : (w : AWord) → InWord P Q w
    word_all (word span substs) = (p span, substs_all substs)

    substs_all : (ss : Substs) → InSubsts P Q ss
    substs_all no_subst = tt
    substs_all (more_substs s ss) = (subst_all s, substs_all ss)

    subst_all : (s : ASubst) → InSubst P Q s
    subst_all (subst entries span) = (all entries, p span)

-- ---- lists at bases

-- a body that was not read stays where it is, and one that was read moves as a span does
body_unread : (base : ℕ) (s : Span) → s.«end» ≡ 0 → placed_body base s ≡ s
body_unread base s is = ap (body_by base s) is

pub body_read : (base : ℕ) (s : Span) (n : ℕ) → s.«end» ≡ suc n → placed_body base s ≡ placed_span base s
body_read base s n is = ap (body_by base s) is

-- at the base 0 a span stays where it is, and so do a body and a list
pub span_still : (s : Span) → placed_span 0 s ≡ s
span_still s =
    let one : 0 + s.start ≡ s.start = omega arith in
    let two : 0 + s.«end» ≡ s.«end» = omega arith in
    rw (one, two) refl

body_still : (s : Span) (n : ℕ) → s.«end» ≡ n → placed_body 0 s ≡ s
body_still s zero is = body_unread 0 s is
body_still s (suc n) is = body_read 0 s n is ∙ span_still s

pub by_nothing : (es : Entries) → moved 0 es ≡ es
by_nothing es = same (placed_span 0) (placed_body 0) (λ s. span_still s) (λ s. body_still s s.«end» refl) es

-- nothing is asked of a span, and nothing of items
abbrev always : Span → Type 0
always s = Unit {0}

abbrev any : Items → Type 0
any items = Unit {0}

-- a span that moves by a and then by b moves by a + b, and so do a body and a list
span_twice : (a b : ℕ) (s : Span) → placed_span b (placed_span a s) ≡ placed_span (a + b) s
span_twice a b s =
    let one : b + (a + s.start) ≡ a + b + s.start = omega arith in
    let two : b + (a + s.«end») ≡ a + b + s.«end» = omega arith in
    rw (one, two) refl

body_twice : (a b : ℕ) (s : Span) (n : ℕ) → s.«end» ≡ n → placed_body b (placed_body a s) ≡ placed_body (a + b) s
body_twice a b s zero is = ap (placed_body b) (body_unread a s is) ∙ body_unread b s is ∙ sym (body_unread (a + b) s is)
body_twice a b s (suc n) is =
    let above : a + s.«end» ≡ suc (a + n) = omega (arith, is) in
    ap (placed_body b) (body_read a s n is)
    ∙ body_read b (placed_span a s) (a + n) above
    ∙ span_twice a b s
    ∙ sym (body_read (a + b) s n is)

pub by_both : (a b : ℕ) (es : Entries) → moved b (moved a es) ≡ moved (a + b) es
by_both a b es =
    over (placed_span b) (placed_span a) (placed_span (a + b)) (placed_body b) (placed_body a)
    (placed_body (a + b)) always any
    (λ s so. span_twice a b s) (λ s so. body_twice a b s s.«end» refl) es (all always any (λ s. tt) (λ items. tt) es)

-- ---- where no offset goes beyond the greatest one

-- a body that was not read stays where it is, and one that was read moves as a span does
pub unread_stays : (base : ℕ) (s : Span) → s.«end» ≤ 0 → s ≡ capped_body base s
unread_stays base s le =
    let is : s.«end» ≡ 0 = omega (arith, le) in
    sym (ap (capped_by base s) is)

pub read_moves : (base : ℕ) (s : Span) → 0 < s.«end» → capped base s ≡ capped_body base s
read_moves base s lt =
    let is : s.«end» ≡ suc (s.«end» - 1) = omega (arith, lt) in
    sym (ap (capped_by base s) is)

-- there a span is where it is without a greatest offset, and so are a body and a list
capped_is : (base : ℕ) (s : Span) → base ≤ 2 ^ 64 - 1 → IsSpanWithin (2 ^ 64 - 1 - base) s →
    capped base s ≡ placed_span base s
capped_is base s fits so =
    let one : min (base + s.start) (2 ^ 64 - 1) ≡ base + s.start = min-eq_left (omega (arith, fits, so.0)) in
    let two : min (base + s.«end») (2 ^ 64 - 1) ≡ base + s.«end» = min-eq_left (omega (arith, fits, so.1)) in
    rw (one, two) refl

capped_body_is : (base : ℕ) (s : Span) (n : ℕ) → base ≤ 2 ^ 64 - 1 → IsSpanWithin (2 ^ 64 - 1 - base) s → s.«end» ≡ n →
    capped_body base s ≡ placed_body base s
capped_body_is base s zero fits so is = ap (capped_by base s) is ∙ sym (body_unread base s is)
capped_body_is base s (suc n) fits so is = ap (capped_by base s) is ∙ capped_is base s fits so
    ∙ sym (body_read base s n is)

pub capped_moved : (base : ℕ) (es : Entries) → base ≤ 2 ^ 64 - 1 → SpansWithin (2 ^ 64 - 1 - base) es →
    carried (capped base) (capped_body base) true es ≡ moved base es
capped_moved base es fits so =
    ap (carried (capped base) (capped_body base) true) (sym (same (λ s. s) (λ s. s) (λ s. refl) (λ s. refl) es))
    ∙ over (capped base) (λ s. s) (placed_span base) (capped_body base) (λ s. s) (placed_body base)
    (IsSpanWithin (2 ^ 64 - 1 - base)) any
    (λ s within. capped_is base s fits within) (λ s within. capped_body_is base s s.«end» fits within refl) es so
