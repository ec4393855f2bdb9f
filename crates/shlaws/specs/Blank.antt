-- Which entries are blank: along a line, and after newline tokens.
use Rattle.std.specs.Prelude.{◌≡◌, ℕ, zero, suc, Bool, false, ◌||◌, not, List as Row, [], ◌∷◌, ◌++◌}
use Rattle.shast.specs.Normal.{is_blank_entry}
use Rattle.shast.specs.Tree.{AnEntry}
use Rattle.shgrammar.specs.Commands.{is_empty}
use Rattle.shgrammar.specs.Lists.{Listed, is_blank_next, next_line}
use Rattle.shgrammar.specs.Scripts.{LinesSoFar, with_line}

-- a list after so many newline tokens more
abbrev pub past_newlines : ℕ → Listed → Listed
past_newlines zero l = l
past_newlines (suc n) l = next_line (past_newlines n l)

-- a script after so many lines more, which have no entry and end in newline tokens
abbrev pub past_empty_lines : ℕ → LinesSoFar → LinesSoFar
past_empty_lines zero so = so
past_empty_lines (suc n) so = with_line (past_empty_lines n so) []

-- entries of which the first is blank or is not, and no other is
abbrev pub AreBlankAtFirst : Bool → Row AnEntry → Type 0
AreBlankAtFirst blank [] = Unit {0}
AreBlankAtFirst blank (e ∷ es) = (is_blank_entry e ≡ blank) × AreBlankAtFirst false es

-- after entries of one line more
pub record HasMore (before after : Listed) : Type 0 where
  pub entries : Row AnEntry
  pub all : after.entries ≡ before.entries ++ entries
  pub flags : AreBlankAtFirst (is_blank_next before) entries
  pub begun : after.begun ≡ (before.begun || not (is_empty entries))
  pub blank : after.blank ≡ before.blank
