-- `if` and loops from just after their openers: branches, each a condition and what it runs, and what stands
-- after `else`.
use Rattle.std.proofs.Common.{◌≡◌, ℕ, ◌+◌, ◌<◌, true, false, List, List as Row, [], ◌∷◌, ◌++◌, length, codes, refl, ap, subst, ◌∙◌, arith, append_assoc, append-nil}
use Rattle.std.proofs.lemmas.Bool.{and_parts}
use Rattle.shgrammar.specs.declared.edition.Edition.{Edition}
use Rattle.shgrammar.specs.declared.token.Next.{Next}
use Rattle.shgrammar.specs.declared.token.Closing.TheVariants as closings
use Rattle.shgrammar.specs.declared.token.Position.TheVariants.{Command}
use Rattle.shgrammar.specs.declared.token.Reserved.{Reserved}
use Rattle.shgrammar.specs.declared.token.Reserved.TheVariants as reserved
use Rattle.shgrammar.specs.declared.token.Token.TheVariants as tokens
use Rattle.shgrammar.specs.Bytes.{past_blanks}
use Rattle.shgrammar.specs.Form.{leads_on, again, many}
use Rattle.shgrammar.specs.Levels.{level}
use Rattle.shast.specs.Normal.{is_normal_form, is_normal_else, are_normal_branches, is_normal_branch}
use Rattle.shgrammar.specs.Compounds.{an_if, a_loop, an_else, elif_turn, branches_so_far, a_branch, closing_text, is_closing}
use Rattle.shgrammar.specs.Commands.{begins_pipeline}
use Rattle.shgrammar.proofs.Places.{blanks_low}
use Rattle.shast.specs.Opened.{entries_bodies, form_bodies, branch_bodies, branches_bodies, else_bodies, opened, open_form, open_branch, open_branches, open_else}
use Rattle.shast.specs.Shape.{Text, Shape, shape_of, shape_of_branch, shape_of_branches, shape_of_else, shape_of_form}
use Rattle.shast.specs.Tree.{ABranchOf, ABranch, branch, BranchesOf, no_branch, more_branches, branches_of, OtherwiseOf, Otherwise, no_else, otherwise, EntriesOf, Entries, AForm, if_then}
use Rattle.shprint.specs.declared.layout.Layout.{Layout}
use Rattle.shprint.specs.Marks.{text, Marks, one, deeper, lines_between}
use Rattle.shprint.specs.Printed.{print_branch, print_branches, print_else, print_entries}
use Rattle.shprint.specs.Written.{print_condition}
use Rattle.shprint.proofs.Tokens.{Start, all_blank}
use Rattle.shprint.proofs.Gives.{Gives, gives_on, ◌⟫◌, given_here, pushed_here, first_of, second_of, last_turn, one_turn}
use Rattle.shprint.proofs.Held.{At, Held, StandsIn, g, lay, state}
use Rattle.shprint.proofs.Good.{GoodForm, GoodElse, GoodBranches, GoodBranch}
use Rattle.shprint.proofs.PrintedText.{laid_text, deeper_blank, AddsBodies, at_text, leads, edition_next, some_word, margin_gap}
use Rattle.shprint.proofs.PrintedCommands.{CompoundsRead}
use Rattle.shprint.proofs.PrintedLists.{Closes, block_read}
use Rattle.shprint.proofs.PrintedReserved.{elif_key, else_key, Ends, line_end_end, Key, ReservedRead, reserved_read, reserved_f, reserved_closes, then_key, do_key, done_key, fi_key, Finished, closing_read}
use Rattle.shprint.proofs.PrintedGroups.{block_marks, between_is, condition_end, condition_read, body_read}

module _ (y : Layout) where
  -- ---- what is printed

  -- what a branch is followed by
  abbrev pub if_rest : Text → Shape BranchesOf → Shape OtherwiseOf → Marks → Marks
  if_rest m bs other rest = print_branches y m bs ++ (print_else y m other ++ (text (codes "fi") ∷ rest))

  -- what all branches are followed by
  abbrev else_rest : Text → Shape OtherwiseOf → Marks → Marks
  else_rest m other rest = print_else y m other ++ (text (codes "fi") ∷ rest)

  -- a branch from just after its opener
  abbrev pub branch_marks : Text → Text → Shape EntriesOf → Shape EntriesOf → Marks → Marks
  branch_marks m w condition body ms = print_condition y m condition ++ (text w ∷ block_marks y m body ms)

  -- a branch by its opener and what stands after it
  pub branch_is : (m opener w : Text) (condition body : Shape EntriesOf) (ms : Marks) →
      print_branch y m opener w (branch condition body) ++ ms ≡ text opener ∷ branch_marks m w condition body ms
  branch_is m opener w condition body ms =
      let C = print_condition y m condition in
      ap (λ ks. text opener ∷ ks)
      (append_assoc C (text w ∷ lines_between m (print_entries y (deeper y m) body)) ms
      ∙ ap (λ ks. C ++ (text w ∷ ks)) (between_is y m body ms))

  -- so are further branches, by the first `elif`
  elif_is : (m : Text) (condition body : Shape EntriesOf) (bs : Shape BranchesOf) (ms : Marks)
      → print_branches y m (more_branches (branch condition body) bs) ++ ms ≡ text (codes "elif")
      ∷ branch_marks m (codes "then") condition body (print_branches y m bs ++ ms)
  elif_is m condition body bs ms =
      append_assoc (print_branch y m (codes "elif") (codes "then") (branch condition body))
      (print_branches y m bs) ms ∙ branch_is m (codes "elif") (codes "then") condition body
      (print_branches y m bs ++ ms)

module _ {edition : Edition} {B T : List ℕ} {o : ℕ} {S : StandsIn edition B T o} {room : ℕ} {y : Layout}
    (fine : CompoundsRead S room y) where
  -- ---- the word after a list

  -- the word with which some marks begin
  record FirstWord (ms : Marks) : Type 0 where
    w : Text
    r : Reserved
    others : Marks
    is : ms ≡ text w ∷ others
    key : Key S w r others
    none : begins_pipeline (tokens.Reserved r) ≡ false

  -- after the branches stands `else` or `fi`
  else_first : (m : Text) (other : Shape OtherwiseOf) (rest : Marks) → Ends rest →
      FirstWord (else_rest y m other rest)
  else_first m no_else rest e =
      record {
        w = codes "fi";
        r = reserved.Fi;
        others = rest;
        is = refl;
        key = fi_key S rest e;
        none = refl;
      }
  else_first m (otherwise es) rest e =
      let ms = block_marks y m es (text (codes "fi") ∷ rest) in
      record {
        w = codes "else";
        r = reserved.Else;
        others = ms;
        is = ap (λ ks. text (codes "else") ∷ ks) (between_is y m es (text (codes "fi") ∷ rest));
        key = else_key S ms (line_end_end _);
        none = refl;
      }

  -- after a branch stands `elif`, `else` or `fi`
  if_first : (m : Text) (bs : Shape BranchesOf) (other : Shape OtherwiseOf) (rest : Marks) → Ends rest →
      FirstWord (if_rest y m bs other rest)
  if_first m no_branch other rest e = else_first m other rest e
  if_first m (more_branches (branch condition body) bs) other rest e =
      let ms = branch_marks y m (codes "then") condition body (if_rest y m bs other rest) in
      record {
        w = codes "elif";
        r = reserved.Elif;
        others = ms;
        is = elif_is y m condition body bs (else_rest y m other rest);
        key = elif_key S ms
            (condition_end y m condition (text (codes "then") ∷ block_marks y m body (if_rest y m bs other rest)));
        none = refl;
      }

  -- such a word after a margin closes the list before it
  first_closes : (m : Text) (ms : Marks) → all_blank m ≡ true → FirstWord ms → (h : Held) (e : ℕ) →
      At S h e (text m ∷ ms) → Closes S e
  first_closes m ms blank f h e at =
      reserved_closes S m f.w f.r f.others blank f.key f.none h e (at ∙ ap (λ ks. lay h (text m ∷ ks)) f.is)

  -- that word is read after its margin
  first_read : (h : Held) (m : Text) (ms : Marks) (e : ℕ) → all_blank m ≡ true → (f : FirstWord ms) →
      At S h e (text m ∷ ms) → ReservedRead S h e f.r f.others
  first_read h m ms e blank f at =
      reserved_read S h m f.w f.r e f.others blank f.key (at ∙ ap (λ ks. lay h (text m ∷ ks)) f.is)

  -- ---- a branch

  -- a branch, and the word after what it runs
  record BranchRead (h : Held) (f : ℕ) (b : Shape ABranchOf) (ms : Marks) : Type 0 where
    value : ABranch
    e : ℕ
    later : Held
    at : At S later e ms
    reads : Gives (g S) (a_branch (level room) (edition_next S Command f)) (state h (past_blanks T f))
        (value, edition_next S Command e)
        (state later (past_blanks T e))
    shape : shape_of_branch B value ≡ open_branch [] b
    texts : AddsBodies S h later (branch_bodies b)

  -- the shape of a branch by those of its lists
  branch_shape : (c b : Entries) (condition body : Shape EntriesOf) → shape_of B c ≡ opened [] condition →
      shape_of B b ≡ opened [] body → shape_of_branch B (branch c b) ≡ open_branch [] (branch condition body)
  unfolding open_branch
  branch_shape c b condition body e f = rw (e, f) refl

  -- a branch is read, up to the margin before the word after it
  branch_read : (h : Held) (m : Text) (condition body : Shape EntriesOf) (f : ℕ) (ms : Marks) → all_blank m ≡ true
      → GoodBranch edition room (branch condition body) → is_normal_branch (branch condition body) ≡ true
      → FirstWord ms → At S h f (branch_marks y m (codes "then") condition body ms) →
      BranchRead h f (branch condition body) (text m ∷ ms)
  unfolding a_branch branch_bodies
  branch_read h m condition body f ms blank good normal next_word at =
      let one_of = and_parts _ _ normal in
      let two_of = and_parts _ _ one_of.0 in
      let three_of = and_parts _ _ two_of.0 in
      let X = block_marks y m body ms in
      let c = condition_read fine h m condition f (codes "then") reserved.Then X blank good.0 three_of.0 three_of.1
      (then_key S X (line_end_end _)) refl at in
      let b = block_read fine c.later (deeper y m) body c.key.f (text m ∷ ms)
      (deeper_blank y m blank) good.1 two_of.1 one_of.1 (first_closes m ms blank next_word) c.key.at in
      record {
        value = branch c.value b.value;
        e = b.«end»;
        later = b.later;
        at = b.at;
        reads = c.reads ⟫ closing_read S room c.later closings.Then reserved.Then c.e X refl refl c.key ⟫ b.reads ⟫
            given_here;
        shape = branch_shape c.value b.value condition body c.shape b.is;
        texts = λ ts. b.texts ts ∙ c.texts (entries_bodies body ts);
      }

  -- ---- loops

  -- a loop from just after `while` or `until`
  pub loop_read : (h : Held) (m : Text) (condition body : Shape EntriesOf) (f : ℕ) (rest : Marks) → all_blank m ≡ true
      → GoodBranch edition room (branch condition body) → is_normal_branch (branch condition body) ≡ true
      → Ends rest → At S h f (branch_marks y m (codes "do") condition body (text (codes "done") ∷ rest))
      → Finished S h ABranch (a_loop (level room) (edition_next S Command f)) (past_blanks T f) rest
      (branch_bodies (branch condition body))
      (λ v. shape_of_branch B v ≡ open_branch [] (branch condition body))
  unfolding a_loop branch_bodies
  loop_read h m condition body f rest blank good normal stop at =
      let one_of = and_parts _ _ normal in
      let two_of = and_parts _ _ one_of.0 in
      let three_of = and_parts _ _ two_of.0 in
      let X = block_marks y m body (text (codes "done") ∷ rest) in
      let c = condition_read fine h m condition f (codes "do") reserved.Do X blank good.0 three_of.0 three_of.1
      (do_key S X (line_end_end _)) refl at in
      let b = body_read fine c.later m body c.key.f (codes "done") reserved.Done rest blank good.1 two_of.1 one_of.1
      (done_key S rest stop) refl c.key.at in
      record {
        value = branch c.value b.value;
        closer = b.key.s;
        e = b.key.f;
        later = b.later;
        at = b.key.at;
        texts = λ ts. b.texts ts ∙ c.texts (entries_bodies body ts);
        reads = c.reads ⟫ closing_read S room c.later closings.Do reserved.Do c.e X refl refl c.key ⟫ b.reads ⟫
            closing_read S room b.later closings.Done reserved.Done b.e rest refl refl b.key ⟫ given_here;
        is = branch_shape c.value b.value condition body c.shape b.shape;
      }

  -- ---- `else`

  -- what is read of `else`, and the `fi` after it
  record ElseRead (h : Held) (e : ℕ) (other : Shape OtherwiseOf) (rest : Marks) : Type 0 where
    value : Otherwise
    f : ℕ
    later : Held
    key : ReservedRead S later f reserved.Fi rest
    reads : Gives (g S) (an_else (level room) (edition_next S Command e)) (state h (past_blanks T e))
        (value, edition_next S Command f)
        (state later (past_blanks T f))
    shape : shape_of_else B value ≡ open_else [] other
    texts : AddsBodies S h later (else_bodies other)

  -- an `else` with its list, or none
  else_read : (h : Held) (m : Text) (other : Shape OtherwiseOf) (e : ℕ) (rest : Marks) → all_blank m ≡ true →
      GoodElse edition room other → is_normal_else other ≡ true → Ends rest
      → At S h e (text m ∷ else_rest y m other rest) → ElseRead h e other rest
  unfolding an_else else_first open_else else_bodies
  else_read h m no_else e rest blank good normal stop at =
      let k = reserved_read S h m (codes "fi") reserved.Fi e rest blank (fi_key S rest stop) at in
      record {
        value = no_else;
        f = e;
        later = h;
        key = k;
        reads = second_of _ _ (ap (is_closing closings.Else) k.token_is) given_here;
        shape = refl;
        texts = λ ts. refl;
      }
  else_read h m (otherwise es) e rest blank good normal stop at =
      let first_word = else_first m (otherwise es) rest stop in
      let X = block_marks y m es (text (codes "fi") ∷ rest) in
      let k = reserved_read S h m (codes "else") reserved.Else e X blank (else_key S X (line_end_end _))
      (at ∙ ap (λ ks. lay h (text m ∷ ks)) first_word.is) in
      let parts = and_parts _ _ normal in
      let b = body_read fine h m es k.f (codes "fi") reserved.Fi rest blank good parts.0 parts.1
      (fi_key S rest stop) refl k.at in
      record {
        value = otherwise b.value;
        f = b.e;
        later = b.later;
        key = b.key;
        reads = first_of _ _ (ap (is_closing closings.Else) k.token_is)
            (k.reads (closing_text closings.Else) Command ⟫ b.reads ⟫ given_here);
        shape = ap otherwise b.shape;
        texts = b.texts;
      }

  -- ---- `elif`

  -- what is read of the `elif` branches after others
  record BranchesRead (h : Held) (acc : Row ABranch) (e : ℕ) (bs : Shape BranchesOf) (ms : Marks) : Type 0 where
    value : Row ABranch
    f : ℕ
    later : Held
    at : At S later f ms
    reads : Gives (g S) (many (elif_turn (level room)) (branches_so_far acc (edition_next S Command e)))
        (state h (past_blanks T e))
        (branches_so_far (acc ++ value) (edition_next S Command f)) (state later (past_blanks T f))
    shape : shape_of_branches B (branches_of value) ≡ open_branches [] bs
    texts : AddsBodies S h later (branches_bodies bs)

  -- one branch before others
  branches_turned : (h k later : Held) (acc : Row ABranch) (n : Next) (p : ℕ) (v : ABranch) (next : Next) (r : ℕ)
      (vs : Row ABranch) (z : Next) (f : ℕ)
      → Gives (g S) (elif_turn (level room) (branches_so_far acc n)) (state h p)
      (again (branches_so_far (acc ++ v ∷ []) next))
      (state k r)
      → leads_on (g S) (state h p) (state k r) ≡ true
      → Gives (g S) (many (elif_turn (level room)) (branches_so_far (acc ++ v ∷ []) next)) (state k r)
      (branches_so_far ((acc ++ v ∷ []) ++ vs) z) (state later f)
      → Gives (g S) (many (elif_turn (level room)) (branches_so_far acc n)) (state h p)
      (branches_so_far (acc ++ (v ∷ vs)) z)
      (state later f)
  branches_turned h k later acc n p v next r vs z f one on rest =
      subst (λ all. Gives (g S) (many (elif_turn (level room)) (branches_so_far acc n)) (state h p)
      (branches_so_far all z)
      (state later f)) (append_assoc acc (v ∷ []) vs) (one_turn (elif_turn (level room)) one on rest)

  -- the shape of branches by that of the first and those of the others
  branches_shape : (v : ABranch) (vs : Row ABranch) (b : Shape ABranchOf) (bs : Shape BranchesOf) →
      shape_of_branch B v ≡ open_branch [] b → shape_of_branches B (branches_of vs) ≡ open_branches [] bs
      → shape_of_branches B (branches_of (v ∷ vs)) ≡ open_branches [] (more_branches b bs)
  unfolding open_branches
  branches_shape v vs b bs e f = rw (e, f) refl

  -- what stands after all branches is no `elif`
  else_no_elif : (m : Text) (other : Shape OtherwiseOf) (rest : Marks) (stop : Ends rest) →
      is_closing closings.Elif (tokens.Reserved (else_first m other rest stop).r) ≡ false
  unfolding else_first
  else_no_elif m no_else rest stop = refl
  else_no_elif m (otherwise es) rest stop = refl

  -- a word after a margin stands in the text
  reserved_within : (h : Held) (m : Text) (w : Text) (e : ℕ) (ms : Marks) → 0 < length w → all_blank m ≡ true →
      Start T (e + length m) → At S h e (text m ∷ text w ∷ ms) → past_blanks T e < length T
  reserved_within h m w e ms some blank s at =
      let at_after = at_text S h e m (text w ∷ ms) at in
      let gap = margin_gap S h m e (text w ∷ ms) blank at s in
      let low = some_word S (e + length m) w (lay h ms) some (at_after ∙ laid_text h w ms) in
      let is = gap.blanks in omega (arith, low, is)

  -- what is read of one `elif` with its branch, and that the turn of it leads on
  record ElifRead (h : Held) (acc : Row ABranch) (e : ℕ) (b : Shape ABranchOf) (ms : Marks) : Type 0 where
    value : ABranch
    f : ℕ
    later : Held
    at : At S later f ms
    reads : Gives (g S) (elif_turn (level room) (branches_so_far acc (edition_next S Command e)))
        (state h (past_blanks T e))
        (again (branches_so_far (acc ++ value ∷ []) (edition_next S Command f))) (state later (past_blanks T f))
    on : leads_on (g S) (state h (past_blanks T e)) (state later (past_blanks T f)) ≡ true
    shape : shape_of_branch B value ≡ open_branch [] b
    texts : AddsBodies S h later (branch_bodies b)

  -- an `elif` is read with its branch, up to the margin before the word after it
  elif_read : (h : Held) (m : Text) (condition body : Shape EntriesOf) (acc : Row ABranch) (e : ℕ) (ms : Marks) →
      all_blank m ≡ true → GoodBranch edition room (branch condition body) →
      is_normal_branch (branch condition body) ≡ true → FirstWord ms →
      At S h e (text m ∷ text (codes "elif") ∷ branch_marks y m (codes "then") condition body ms)
      → ElifRead h acc e (branch condition body) (text m ∷ ms)
  unfolding elif_turn
  elif_read h m condition body acc e ms blank good normal next_word at =
      let Y = text (codes "then") ∷ block_marks y m body ms in
      let X = print_condition y m condition ++ Y in
      let key = elif_key S X (condition_end y m condition Y) in
      let k = reserved_read S h m (codes "elif") reserved.Elif e X blank key at in
      let k_f = reserved_f S h m (codes "elif") reserved.Elif e X blank key at in
      let b = branch_read h m condition body k.f ms blank good normal next_word k.at in
      let low = gives_on (a_branch (level room) (edition_next S Command k.f)) _ _ _ b.reads in
      let start = (key h (e + length m)
      (at_text S h e m (text (codes "elif") ∷ X) at ∙ laid_text h (codes "elif") X)).start in
      let within = reserved_within h m (codes "elif") e X (omega arith) blank start at in
      record {
        value = b.value;
        f = b.e;
        later = b.later;
        at = b.at;
        reads = first_of _ _ (ap (is_closing closings.Elif) k.token_is)
            (k.reads (closing_text closings.Elif) Command ⟫ b.reads ⟫ pushed_here acc b.value ⟫ given_here);
        on = leads S h b.later (past_blanks T e) (past_blanks T b.e)
            (omega (arith, low, k_f, blanks_low T k.f)) within;
        shape = b.shape;
        texts = b.texts;
      }

  -- all `elif` branches are read, up to the margin before `else` or `fi`
  branches_read : (h : Held) (m : Text) (bs : Shape BranchesOf) (other : Shape OtherwiseOf) (acc : Row ABranch)
      (e : ℕ) (rest : Marks) → all_blank m ≡ true → GoodBranches edition room bs → are_normal_branches bs ≡ true
      → Ends rest → At S h e (text m ∷ if_rest y m bs other rest) →
      BranchesRead h acc e bs (text m ∷ else_rest y m other rest)
  unfolding elif_turn open_branches branches_bodies
  branches_read h m no_branch other acc e rest blank good normal stop at =
      let first_word = else_first m other rest stop in
      let k = first_read h m (else_rest y m other rest) e blank first_word at in
      record {
        value = [];
        f = e;
        later = h;
        at = at;
        reads = rw (append-nil acc)
            (last_turn (elif_turn (level room))
            (second_of _ _ (ap (is_closing closings.Elif) k.token_is ∙ else_no_elif m other rest stop)
            given_here));
        shape = refl;
        texts = λ ts. refl;
      }
  branches_read h m (more_branches (branch condition body) bs) other acc e rest blank good normal stop at =
      let parts = and_parts _ _ normal in
      let b = elif_read h m condition body acc e (if_rest y m bs other rest) blank good.0 parts.0
      (if_first m bs other rest stop)
      (at ∙ ap (λ ks. lay h (text m ∷ ks)) (elif_is y m condition body bs (else_rest y m other rest))) in
      let others = branches_read b.later m bs other
      (acc ++ b.value ∷ []) b.f rest blank good.1 parts.1 stop b.at in
      record {
        value = b.value ∷ others.value;
        f = others.f;
        later = others.later;
        at = others.at;
        reads = branches_turned h b.later others.later acc (edition_next S Command e) (past_blanks T e) b.value
            (edition_next S Command b.f) (past_blanks T b.f) others.value (edition_next S Command others.f)
            (past_blanks T others.f) b.reads b.on others.reads;
        shape = branches_shape b.value others.value (branch condition body) bs b.shape others.shape;
        texts = λ ts. others.texts ts ∙ b.texts (branches_bodies bs ts);
      }

  -- ---- `if`

  -- the shape of an `if` by those of its parts
  if_shape : (v : ABranch) (vs : Row ABranch) (w : Otherwise) (b : Shape ABranchOf) (bs : Shape BranchesOf)
      (other : Shape OtherwiseOf) → shape_of_branch B v ≡ open_branch [] b
      → shape_of_branches B (branches_of vs) ≡ open_branches [] bs → shape_of_else B w ≡ open_else [] other →
      shape_of_form B (if_then v (branches_of vs) w) ≡ open_form [] (if_then b bs other)
  unfolding open_form
  if_shape v vs w b bs other e f i = rw (e, f, i) refl

  -- an `if` from just after its opener, up to `fi`
  pub if_read : (h : Held) (m : Text) (condition body : Shape EntriesOf) (bs : Shape BranchesOf)
      (other : Shape OtherwiseOf) (f : ℕ) (rest : Marks) → all_blank m ≡ true
      → GoodForm edition room (if_then (branch condition body) bs other) →
      is_normal_form (if_then (branch condition body) bs other) ≡ true → Ends rest
      → At S h f (branch_marks y m (codes "then") condition body (if_rest y m bs other rest))
      → Finished S h AForm (an_if (level room) (edition_next S Command f)) (past_blanks T f) rest
      (form_bodies (if_then (branch condition body) bs other))
      (λ v. shape_of_form B v ≡ open_form [] (if_then (branch condition body) bs other))
  unfolding an_if form_bodies
  if_read h m condition body bs other f rest blank good normal stop at =
      let one_of = and_parts _ _ normal in
      let two_of = and_parts _ _ one_of.0 in
      let b = branch_read h m condition body f (if_rest y m bs other rest) blank good.0 two_of.0
      (if_first m bs other rest stop) at in
      let r = branches_read b.later m bs other [] b.e rest blank good.1 two_of.1 stop b.at in
      let e = else_read r.later m other r.f rest blank good.2 one_of.1 stop r.at in
      record {
        value = if_then b.value (branches_of r.value) e.value;
        closer = e.key.s;
        e = e.key.f;
        later = e.later;
        at = e.key.at;
        texts = λ ts. e.texts ts ∙ r.texts (else_bodies other ts)
            ∙ b.texts (branches_bodies bs (else_bodies other ts));
        reads = b.reads ⟫ r.reads ⟫ e.reads ⟫ closing_read S room e.later closings.Fi reserved.Fi e.f rest refl refl
            e.key ⟫ given_here;
        is = if_shape b.value r.value e.value (branch condition body) bs other b.shape r.shape e.shape;
      }
