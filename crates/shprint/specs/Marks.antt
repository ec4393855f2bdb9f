-- What is printed, from left to right.
use Rattle.std.specs.Prelude.{◌==◌, ◌++◌, [], ◌∷◌, List as Row, codes, if◌then◌else◌}
use Rattle.std.proofs.Math.ListN.{replicate}
use Rattle.shgrammar.specs.Characters.{newline_char, space}
use Rattle.shast.specs.Shape.{Text}
use Rattle.shprint.specs.declared.layout.Layout.{Layout}

pub data Mark : Type 0 where
  -- these bytes
  text : Text → Mark
  -- the end of a line
  line_end : Mark
  -- the body of a here-document and the line of its delimiter, which wait for the end of the line
  document : Text → Mark

abbrev pub Marks : Type 0
Marks = Row Mark

-- the text of some marks, where this waits for the end of the line
unfoldable pub laid_after : Text → Marks → Text
laid_after held [] = []
laid_after held (text t ∷ ms) = t ++ laid_after held ms
laid_after held (line_end ∷ ms) = newline_char ∷ held ++ laid_after [] ms
laid_after held (document t ∷ ms) = laid_after (held ++ t) ms

-- what waits after them
unfoldable pub held_after : Text → Marks → Text
held_after held [] = held
held_after held (text t ∷ ms) = held_after held ms
held_after held (line_end ∷ ms) = held_after [] ms
held_after held (document t ∷ ms) = held_after (held ++ t) ms

-- the text of some marks
abbrev pub laid : Marks → Text
laid ms = laid_after [] ms

-- ---- margins

-- what stands for each level
abbrev pub step : Layout → Text
step y = if y.indent == 0 then codes "\t" else replicate y.indent space

-- a margin, with which a line begins, one level deeper
abbrev pub deeper : Layout → Text → Text
deeper y margin = margin ++ step y

-- ---- small marks

abbrev pub one : Text → Marks
one t = text t ∷ []

-- the lines of a list, from just after what opens it to what closes it
abbrev pub lines_between : Text → Marks → Marks
lines_between margin ms = line_end ∷ ms ++ one margin
