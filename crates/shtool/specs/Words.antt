-- The program's command as clap's model has it, and the settings that its matches give.
use Rattle.std.specs.Prelude.{◌≡◌, ◌≢◌, ◌<◌, ◌==◌, ℕ, not, Bool, true, false, [], ◌∷◌, List, map, Option, None, Some, Result, Ok, Err, codes, option_map, option_and_then, pos, if◌then◌else◌}
use denote.Ref.{Bor}
use Rattle.std.specs.Str.{bytes_eq}
use Rattle.std.specs.Option.{option_map_or}
use Rattle.clap.specs.Words.{App, HasKind, Row, Rule, Text, fault_of, first_of, new_app, new_rule, one_of, subcommand_of, with_rule, with_subcommand}
use Rattle.clap.specs.Walk.{byte_or_zero}
use Rattle.clap.specs.declared.builder.action.ArgAction.TheVariants.{SetTrue}
use Rattle.clap.specs.declared.builder.value_parser.ValueParser.TheVariants.{Names, Signed}
use Rattle.shgrammar.specs.Characters.{hyphen}
use Rattle.shgrammar.specs.declared.edition.Edition.{Edition}
use Rattle.shgrammar.specs.declared.edition.Edition.TheVariants.{Y2017, Y2024}
use Rattle.shprint.specs.declared.layout.Layout.{Layout}
use Rattle.shtool.specs.declared.asked.Settings.{Settings}
use Rattle.shtool.specs.declared.asked.Tool.{Tool}
use Rattle.shtool.specs.declared.asked.Tool.TheVariants.{Check, Print, Session}
use Rattle.shtool.specs.declared.usage.Usage.{Usage}
use Rattle.shtool.specs.declared.usage.Usage.TheVariants.{Words, Indent}

-- ---- the command

-- FILE
abbrev pub file_rule : Rule
file_rule = new_rule (codes "FILE")

-- the i of -i
abbrev pub letter_i : ℕ
letter_i = 105

-- -i N, --indent N: a number from 0 to 16
abbrev pub indent_rule : Rule
indent_rule = record (new_rule (codes "indent"))
    { short = Some letter_i; long = Some (codes "indent"); value_names = 1; parser = Some (Signed (pos 0) (pos 16)) }

-- the names of the editions, as they lie in memory
abbrev pub Years : Type 0
Years = Bor (List (Bor Text))

abbrev pub AreYears : Years → Type 0
AreYears years = map (λ year. year.now) years.now ≡ codes "2017" ∷ codes "2024" ∷ []

-- --edition YEAR: one of them
abbrev pub edition_rule : Years → Rule
edition_rule years = record (new_rule (codes "edition"))
    { long = Some (codes "edition"); value_names = 1; parser = Some (Names years) }

-- a flag --NAME
abbrev pub flag_rule : Text → Rule
flag_rule name = record (new_rule name) { long = Some name; action = Some SetTrue }

-- NAME [--edition YEAR]
abbrev pub reading_app : Years → Text → App
reading_app years name = with_rule (new_app name) (edition_rule years)

-- check [--edition YEAR] [FILE]
abbrev pub check_app : Years → App
check_app years = with_rule (reading_app years (codes "check")) file_rule

-- NAME [OPTIONS] [FILE]
abbrev pub printing_app : Years → Text → App
printing_app years name = with_rule (with_rule (with_rule (with_rule (with_rule (reading_app years name) indent_rule)
    (flag_rule (codes "case-indent"))) (flag_rule (codes "space-redirects"))) (flag_rule (codes "func-next-line")))
    file_rule

-- print [OPTIONS] [FILE]
abbrev pub print_app : Years → App
print_app years = printing_app years (codes "print")

-- session [OPTIONS] [FILE]
abbrev pub session_app : Years → App
session_app years = printing_app years (codes "session")

-- what holds of the whole command: the words begin after the program's name, one of
-- them is a subcommand, and there is a version
abbrev pub with_settings : App → App
with_settings a = record {
  top = record a.top { no_binary_name = true; subcommand_required = true; has_version = true };
  subs = a.subs;
}

-- shform
abbrev pub top_app : App
top_app = with_settings (new_app (codes "shform"))

-- shform with one subcommand
abbrev pub alone_app : App → App
alone_app sub = with_subcommand top_app sub.top

-- shform check
abbrev pub app_with_check : Years → App
app_with_check years = alone_app (check_app years)

-- shform check, shform print
abbrev pub app_with_check_and_print : Years → App
app_with_check_and_print years = with_subcommand (app_with_check years) (print_app years).top

-- shform check, shform print, shform session
abbrev pub app_with_all_tools : Years → App
app_with_all_tools years = with_subcommand (app_with_check_and_print years) (session_app years).top

-- shform with the subcommand of a name alone; where there is none, with all
abbrev pub app_named : Years → Text → App
app_named years name = if bytes_eq name (codes "check") then alone_app (check_app years)
    else (if bytes_eq name (codes "print") then alone_app (print_app years)
    else (if bytes_eq name (codes "session") then alone_app (session_app years) else app_with_all_tools years))

-- what is built for some words: that for the first of them
abbrev pub app_for : Years → List Text → App
app_for years [] = app_with_all_tools years
app_for years (word ∷ words) = app_named years word

-- ---- plain words, which need no clap

-- what begins with another byte than a hyphen is FILE wherever it may stand
abbrev pub is_plain_file : Text → Bool
is_plain_file [] = false
is_plain_file (c ∷ cs) = not (c == hyphen)

-- the words are the name of check or of print, and FILE
abbrev pub AreToolAndFile : List Text → Tool → Text → Type 0
AreToolAndFile words Check file = (words ≡ codes "check" ∷ file ∷ []) × (is_plain_file file ≡ true)
AreToolAndFile words Print file = (words ≡ codes "print" ∷ file ∷ []) × (is_plain_file file ≡ true)
AreToolAndFile words Session file = ⊥

-- ---- what its matches give

-- the tool of a subcommand's name
abbrev pub tool_named : Text → Tool
tool_named name = if bytes_eq name (codes "print") then Print else if bytes_eq name (codes "session") then Session
    else Check

-- the edition of a year; that of 2017 where none is given
abbrev pub edition_in : Option Text → Edition
edition_in given = if option_map_or (λ t. bytes_eq t (codes "2024")) given false then Y2024 else Y2017

-- FILE, where it is given and is not -
abbrev pub file_in : Option Text → Option Text
file_in given = option_and_then (λ t. if bytes_eq t (codes "-") then None else Some t) given

-- a flag is set where clap has true for it
pub record IsFlag (given : Option Text) (flag : Bool) : Type 0 where
  pub absent : given ≡ None → flag ≡ false
  pub on : given ≡ Some (codes "true") → flag ≡ true
  pub off : given ≡ Some (codes "false") → flag ≡ false

-- the number that is given, and 0 where none is
abbrev pub indent_in : Option Text → ℕ
indent_in given = option_map_or byte_or_zero given 0

-- The layout's choices are those of the options of print and session; a check has none.
pub record AreOptions (own : List Row) (layout : Layout) : Type 0 where
  pub indent : layout.indent ≡ indent_in (one_of (codes "indent") own)
  pub case_indent : IsFlag (one_of (codes "case-indent") own) layout.case_indent
  pub space_redirects : IsFlag (one_of (codes "space-redirects") own) layout.space_redirects
  pub func_next_line : IsFlag (one_of (codes "func-next-line") own) layout.func_next_line

abbrev pub IsLayoutFor : Tool → List Row → Layout → Type 0
IsLayoutFor Check own layout = layout
    ≡ record { indent = 0; case_indent = false; space_redirects = false; func_next_line = false }
IsLayoutFor Print own layout = AreOptions own layout
IsLayoutFor Session own layout = AreOptions own layout

-- The settings are those of clap's matches of the words: the name of a subcommand, and the rows of its own.
pub record AreSettingsOf (words : List Text) (s : Settings) : Type 0 where
  pub years : Years
  pub are_years : AreYears years
  pub name : Text
  pub own : List Row
  pub matches : subcommand_of (app_with_all_tools years) words ≡ Some (name, own)
  pub tool : s.tool ≡ tool_named name
  pub edition : s.edition ≡ edition_in (first_of (codes "edition") own)
  pub layout : IsLayoutFor s.tool own s.layout
  pub file : option_map (λ t. t.now) s.file ≡ file_in (first_of (codes "FILE") own)

-- clap let an indent above 16 pass
pub record HasWideIndent (years : Years) (words : List Text) : Type 0 where
  pub name : Text
  pub own : List Row
  pub matches : subcommand_of (app_with_all_tools years) words ≡ Some (name, own)
  pub tool : tool_named name ≢ Check
  pub indent : 16 < indent_in (one_of (codes "indent") own)

-- What there is in place of settings: clap's answer, of a kind that its model has for
-- the words, or an indent that clap should not let pass.
abbrev pub FailsFor : List Text → Result Settings Usage → Type 0
FailsFor words (Ok s) = (years : Years) × AreYears years × (fault_of (app_with_all_tools years) words ≡ [])
FailsFor words (Err (Words e)) = (years : Years) × AreYears years
    × HasKind (fault_of (app_with_all_tools years) words) e
FailsFor words (Err (Indent e)) = (years : Years) × AreYears years × HasWideIndent years words
