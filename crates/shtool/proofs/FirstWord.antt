-- Words that begin with the name of a subcommand are taken alike by a command with that subcommand alone.
use Rattle.std.proofs.Common.{◌≡◌, ◌∙◌, [], ◌∷◌, Bool, List, Some, ap, codes, false, is_some, refl, subst, sym, true}
use Rattle.std.specs.Prelude.{if◌then◌else◌}
use Rattle.std.specs.Str.{bytes_eq}
use Rattle.std.proofs.lemmas.Slice.Eq.{bytes_eq-Decides}
use Rattle.clap.specs.Faults.{built_fault, check_fault, defaults_fault, entered_fault, fault_of, is_simple_and_free, walk_fault}
use Rattle.clap.specs.Kinds.{Kinds, or_else}
use Rattle.clap.specs.Simple.{App, Shape, built, entered, is_simple, names_of, subcommand_of}
use Rattle.clap.specs.Walk.{Names, Rule, Text, Walk, finished, idle, nothing_held, stop_after, subcommand_met, walk, walk_from, walked}
use Rattle.clap.proofs.FaultLemmas.{stopped_fault}
use Rattle.clap.proofs.WalkLemmas.{walk_stopped}
use Rattle.shtool.specs.Words.{Years, alone_app, app_for, check_app, print_app, session_app, app_with_all_tools}

-- the walk stops at the word, and the others are left to the subcommand
stops : (c : List Rule) (names : Names) (word : Text) (words : List Text) → subcommand_met names idle word ≡ Some word
    → walk c names nothing_held (word ∷ words) ≡ record (walk_from nothing_held) { stopped = Some (word, words) }
unfolding walked
stops c names word words met = rw met (sym (walk_stopped c names (walk_from nothing_held) word [] words))

-- and fails at none of them
passes : (s : Shape) (names : Names) (word : Text) (words : List Text) → subcommand_met names idle word ≡ Some word
    → bytes_eq word (codes "help") ≡ false → walk_fault s names (walk_from nothing_held) (word ∷ words) ≡ []
unfolding walk_fault walked
passes s names word words met other = rw (met, other) (stopped_fault s names (walk_from nothing_held) (word, []) words)

-- how a command that is built fails by such words: as the subcommand, or by what it is itself
abbrev pub fault_by : App → Text → List Text → Kinds
fault_by a word words = or_else (entered_fault a (Some (word, words)))
    (or_else (defaults_fault [] a.top.rules)
    (check_fault a.top (finished a.top.rules nothing_held) (is_some (entered a (Some (word, words))))))

module _ (a : App) (word : Text) (words : List Text) (met : subcommand_met (names_of a) idle word ≡ Some word) where
  -- the subcommand that is entered
  pub enters : entered a (stop_after a.top.rules (names_of a) (word ∷ words)) ≡ entered a (Some (word, words))
  enters = ap (λ (w : Walk). entered a w.stopped) (stops a.top.rules (names_of a) word words met)

  pub fails : bytes_eq word (codes "help") ≡ false → built_fault a nothing_held (word ∷ words) ≡ fault_by a word words
  fails other = rw (stops a.top.rules (names_of a) word words met, passes a.top (names_of a) word words met other) refl

-- a command takes these words as the whole one does
pub record Same (years : Years) (a : App) (words : List Text) : Type 0 where
  pub simple : is_simple a ≡ true
  pub free : is_simple_and_free a ≡ true
  pub required : a.top.subcommand_required ≡ true
  pub matches : subcommand_of a words ≡ subcommand_of (app_with_all_tools years) words
  pub faults : fault_of a words ≡ fault_of (app_with_all_tools years) words

whole : (years : Years) (words : List Text) → Same years (app_with_all_tools years) words
whole years words = record { simple = refl; free = refl; required = refl; matches = refl; faults = refl }

module _ (years : Years) (words : List Text) where
  abbrev all : App
  all = built (app_with_all_tools years)

  -- a subcommand alone, whose name both meet, and which both enter and fail by alike
  alone : (sub : App) (name : Text) → is_simple (alone_app sub) ≡ true → is_simple_and_free (alone_app sub) ≡ true
      → subcommand_met (names_of (built (alone_app sub))) idle name ≡ Some name
      → subcommand_met (names_of all) idle name ≡ Some name → bytes_eq name (codes "help") ≡ false
      → entered (built (alone_app sub)) (Some (name, words)) ≡ entered all (Some (name, words))
      → fault_by (built (alone_app sub)) name words ≡ fault_by all name words
      → Same years (alone_app sub) (name ∷ words)
  alone sub name simple free met met_by_all other entry fault = record {
    simple = simple;
    free = free;
    required = refl;
    matches = enters (built (alone_app sub)) name words met ∙ entry ∙ sym (enters all name words met_by_all);
    faults = fails (built (alone_app sub)) name words met other ∙ fault ∙ sym (fails all name words met_by_all other);
  }

  check : Same years (alone_app (check_app years)) (codes "check" ∷ words)
  check = alone (check_app years) (codes "check") refl refl refl refl refl refl refl

  print : Same years (alone_app (print_app years)) (codes "print" ∷ words)
  print = alone (print_app years) (codes "print") refl refl refl refl refl refl refl

  session : Same years (alone_app (session_app years)) (codes "session" ∷ words)
  session = alone (session_app years) (codes "session") refl refl refl refl refl refl refl

  by_name : {a : App} {name word : Text} → Same years a (name ∷ words) → bytes_eq word name ≡ true →
      Same years a (word ∷ words)
  by_name {a} {name} {word} same is =
      subst (λ w. Same years a (w ∷ words)) (sym ((bytes_eq-Decides word name).0 is)) same

  -- by what the word is
  named : (word : Text) (c p s : Bool) → bytes_eq word (codes "check") ≡ c → bytes_eq word (codes "print") ≡ p
      → bytes_eq word (codes "session") ≡ s
      → Same years (if c then alone_app (check_app years) else (if p then alone_app (print_app years)
      else (if s then alone_app (session_app years) else app_with_all_tools years))) (word ∷ words)
  named word true p s c-is p-is s-is = by_name check c-is
  named word false true s c-is p-is s-is = by_name print p-is
  named word false false true c-is p-is s-is = by_name session s-is
  named word false false false c-is p-is s-is = whole years (word ∷ words)

pub words_same : (years : Years) (words : List Text) → Same years (app_for years words) words
words_same years [] = whole years []
words_same years (word ∷ words) = named years words word _ _ _ refl refl refl
