-- What clap's model makes of the name of check or print, and of FILE.
use Rattle.std.proofs.Common.{◌≡◌, ◌==◌, ◌∙◌, ℕ, Bool, List, [], ◌∷◌, None, Some, ap, codes, false, refl, subst, sym, true}
use Rattle.std.specs.Option.{option_map_or}
use Rattle.std.specs.Str.{bytes_eq}
use Rattle.std.proofs.lemmas.Bool.{not-true}
use denote.Ref.{Bor}
use Rattle.clap.specs.Faults.{check_fault, defaults_fault, fault_of, level_fault, settle_fault, step_fault, walk_fault}
use Rattle.clap.specs.Kinds.{Kinds, or_else}
use Rattle.clap.specs.Simple.{App, Shape, built, built_leaf, inherited, subcommand_of}
use Rattle.clap.specs.Lexer.{long_of, short_of}
use Rattle.clap.specs.Walk.{Held, Row, Rule, Text, Walk, after_step, arg_by_index, finished, idle, nothing_held, reading_by, settled, to_positional, value, walk, walk_from, walked, word_met}
use Rattle.clap.specs.declared.parser.matches.ValueSource.{ValueSource}
use Rattle.clap.specs.declared.parser.matches.ValueSource.TheVariants.{CommandLine, DefaultValue}
use Rattle.shtool.specs.declared.asked.Settings.{Settings}
use Rattle.shtool.specs.declared.asked.Tool.{Tool}
use Rattle.shtool.specs.declared.asked.Tool.TheVariants.{Check, Print, Session}
use Rattle.shgrammar.specs.Characters.{hyphen}
use Rattle.shgrammar.specs.declared.edition.Edition.TheVariants.{Y2017}
use Rattle.shprint.specs.declared.layout.Layout.{Layout}
use Rattle.shtool.specs.Words.{AreToolAndFile, AreSettingsOf, AreYears, IsFlag, IsLayoutFor, Years, check_app, file_in, file_rule, flag_rule, print_app, app_with_all_tools}
use Rattle.shtool.proofs.FirstWord.{enters, fails}

-- the row of an argument that has one value
abbrev row : Rule → ValueSource → Text → Row
row rule source text = record {
  id = rule.id;
  values = text ∷ [];
  count = None;
  source = Some source;
  reading = reading_by rule;
}

abbrev flag_row : Text → Row
flag_row name = row (flag_rule name) DefaultValue (codes "false")

-- the rows of check: FILE
abbrev check_rows : Text → List Row
check_rows file = row file_rule CommandLine file ∷ []

-- those of print: FILE, and each flag by its default
abbrev print_rows : Text → List Row
print_rows file = row file_rule CommandLine file ∷ flag_row (codes "case-indent")
    ∷ flag_row (codes "space-redirects") ∷ flag_row (codes "func-next-line") ∷ []

-- a subcommand takes FILE alone, with these rows
record Taken (years : Years) (name file : Text) (rows : List Row) : Type 0 where
  matches : subcommand_of (app_with_all_tools years) (name ∷ file ∷ []) ≡ Some (name, rows)
  faultless : fault_of (app_with_all_tools years) (name ∷ file ∷ []) ≡ []

module _ (c : ℕ) (cs : Text) (plain : (c == hyphen) ≡ false) where
  abbrev word : Text
  word = c ∷ cs

  -- it is no option, nor -- or -
  no_trailing : bytes_eq word (codes "--") ≡ false
  no_trailing = rw plain refl

  no_long : long_of word ≡ None
  no_long = rw plain refl

  no_short : short_of word ≡ None
  no_short = rw plain refl

  no_input : file_in (Some word) ≡ Some word
  no_input = rw plain refl

  met : (rules : List Rule) → word_met rules [] false idle 1 word nothing_held ≡ (nothing_held, value)
  met rules = rw (no_trailing, no_long, no_short) refl

  -- so it goes to the first positional
  abbrev gone : List Rule → Walk
  gone rules = to_positional rules (arg_by_index rules 1) word (walk_from nothing_held) nothing_held

  goes : (rules : List Rule) → walk rules [] nothing_held (word ∷ []) ≡ gone rules
  unfolding walked
  goes rules = ap (λ m. after_step rules word (walk_from nothing_held) m.0 m.1) (met rules)

  -- and the walk fails there or nowhere
  abbrev there : Shape → Kinds
  there s = or_else (step_fault s 1 nothing_held value) []

  fails_there : (s : Shape) → walk_fault s [] (walk_from nothing_held) (word ∷ []) ≡ there s
  unfolding walk_fault
  fails_there s = rw (met s.rules, no_trailing, no_long, no_short) refl

  -- what comes after the walk
  abbrev after : Shape → Held → Kinds
  after s end = or_else (settle_fault s.rules s.args_override_self end)
      (or_else (defaults_fault (settled s.rules end).rows s.rules) (check_fault s (finished s.rules end) false))

  level : (s : Shape) → level_fault s [] nothing_held (word ∷ []) false []
      ≡ or_else (there s) (after s (gone s.rules).held)
  level s = rw (goes s.rules, fails_there s) refl

  module _ (years : Years) where
    abbrev sub : App → Shape
    sub a = built_leaf (inherited (app_with_all_tools years).top a.top)

    check : Taken years (codes "check") word (check_rows word)
    unfolding defaults_fault
    check = let s = sub (check_app years) in record {
      matches = enters (built (app_with_all_tools years)) (codes "check") (word ∷ []) refl
          ∙ ap (λ (w : Walk). Some (codes "check", finished s.rules w.held)) (goes s.rules);
      faultless = fails (built (app_with_all_tools years)) (codes "check") (word ∷ []) refl refl
          ∙ ap (λ kinds. or_else kinds []) (level s);
    }

    print : Taken years (codes "print") word (print_rows word)
    unfolding defaults_fault
    print = let s = sub (print_app years) in record {
      matches = enters (built (app_with_all_tools years)) (codes "print") (word ∷ []) refl
          ∙ ap (λ (w : Walk). Some (codes "print", finished s.rules w.held)) (goes s.rules);
      faultless = fails (built (app_with_all_tools years)) (codes "print") (word ∷ []) refl refl
          ∙ ap (λ kinds. or_else kinds []) (level s);
    }

-- the names of the editions, wherever they lie
abbrev year : Text → Bor Text
year name = record { ref_ptr = (0, 0); now = name }

abbrev years : Years
years = record { ref_ptr = (0, 0); now = year (codes "2017") ∷ year (codes "2024") ∷ [] }

-- a flag that has its default is off
off : (flag : Bool) → flag ≡ false → IsFlag (Some (codes "false")) flag
off flag is = record {
  absent = λ none. is;
  on = λ same.
      let other : true ≡ false = ap (λ given. option_map_or (λ t. bytes_eq t (codes "false")) given false) same in
      cc;
  off = λ same. is;
}

abbrev run : Tool → Layout → Bor Text → Settings
run tool layout file = record { tool = tool; edition = Y2017; layout = layout; file = Some file }

-- such words ask for the tool with all its defaults over FILE
pub plain_run : (words : List Text) (tool : Tool) (layout : Layout) (file : Bor Text) (text : Text) → file.now ≡ text
    → AreToolAndFile words tool text → IsLayoutFor Check [] layout → AreSettingsOf words (run tool layout file)
plain_run words Check layout file (c ∷ cs) is are plain =
    subst (λ w. AreSettingsOf w (run Check layout file)) (sym are.0) (record {
      years = years;
      are_years = refl;
      name = codes "check";
      own = check_rows (c ∷ cs);
      matches = (check c cs (not-true (c == hyphen) are.1) years).matches;
      tool = refl;
      edition = refl;
      layout = plain;
      file = ap Some is ∙ sym (no_input c cs (not-true (c == hyphen) are.1));
    })
plain_run words Print layout file (c ∷ cs) is are plain =
    subst (λ w. AreSettingsOf w (run Print layout file)) (sym are.0) (record {
      years = years;
      are_years = refl;
      name = codes "print";
      own = print_rows (c ∷ cs);
      matches = (print c cs (not-true (c == hyphen) are.1) years).matches;
      tool = refl;
      edition = refl;
      layout = record {
        indent = ap (λ l. l.indent) plain;
        case_indent = off layout.case_indent (ap (λ l. l.case_indent) plain);
        space_redirects = off layout.space_redirects (ap (λ l. l.space_redirects) plain);
        func_next_line = off layout.func_next_line (ap (λ l. l.func_next_line) plain);
      };
      file = ap Some is ∙ sym (no_input c cs (not-true (c == hyphen) are.1));
    })
plain_run words Check layout file [] is are plain = let never : false ≡ true = are.1 in cc
plain_run words Print layout file [] is are plain = let never : false ≡ true = are.1 in cc
plain_run words Session layout file text is are plain = absurd are

-- and fail at none
pub plain_passes : (words : List Text) (tool : Tool) (file : Text) → AreToolAndFile words tool file
    → (some : Years) × AreYears some × (fault_of (app_with_all_tools some) words ≡ [])
plain_passes words Check (c ∷ cs) are = (
  years,
  refl,
  ap (fault_of (app_with_all_tools years)) are.0 ∙ (check c cs (not-true (c == hyphen) are.1) years).faultless,
)
plain_passes words Print (c ∷ cs) are = (
  years,
  refl,
  ap (fault_of (app_with_all_tools years)) are.0 ∙ (print c cs (not-true (c == hyphen) are.1) years).faultless,
)
plain_passes words Check [] are = let never : false ≡ true = are.1 in cc
plain_passes words Print [] are = let never : false ≡ true = are.1 in cc
plain_passes words Session file are = absurd are
