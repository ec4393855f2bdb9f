-- What the value of a session stands for.
use Rattle.std.specs.Prelude.{◌≤◌, length}
use Rattle.shtext.specs.Buffer.{buffer_bytes}
use Rattle.shread.specs.Answers.{edition_of}
use Rattle.shtext.specs.Edit.{limit}
use Rattle.shwindow.specs.Lines.{IsRow}
use Rattle.shlive.specs.Held.{Held}
use Rattle.shlive.specs.HeldLines.{IsHeldLine, count_of}
use Rattle.shlive.specs.declared.session.Session.TheInside.{Inside}

-- the bytes of its text, the edition of its reader and its layout, and what the reader has read
abbrev pub held : Inside → Held
held s = record {
  bytes = buffer_bytes s.text;
  how = record { edition = edition_of s.reader.reader; layout = s.layout };
  meter = count_of s.reader.reader;
}

-- the lines that are held are those of the bytes
pub record IsKept (s : Inside) : Type 0 where
  pub small : length (buffer_bytes s.text) ≤ limit
  pub row : IsRow (IsHeldLine (edition_of s.reader.reader)) (buffer_bytes s.text) s.lines
