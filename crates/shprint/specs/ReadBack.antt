-- What it means that a printed text reads back.
use Rattle.std.specs.Prelude.{◌≡◌, ℕ, List, None}
use Rattle.shgrammar.specs.declared.edition.Edition.{Edition}
use Rattle.shgrammar.specs.Scripts.{AScript, Outcome}
use Rattle.shast.specs.Shape.{Shape, shape_of}
use Rattle.shast.specs.Tree.{EntriesOf}
use Rattle.shprint.specs.Printed.{printed}
use Rattle.shprint.specs.declared.layout.Layout.{Layout}

-- Under one of the editions this script is what is read of the bytes.
abbrev pub IsOutcome : List ℕ → AScript → Type 0
IsOutcome bytes script = (edition : Edition) × Outcome edition bytes script

-- Read as a script of this edition the text is without a fault, and has this shape; it is no other script.
pub record ReadsBack (edition : Edition) (text : List ℕ) (shape : Shape EntriesOf) : Type 0 where
  pub script : AScript
  pub outcome : Outcome edition text script
  pub faultless : script.fault ≡ None
  pub same : shape_of text script.entries ≡ shape
  pub only : (other : AScript) → Outcome edition text other → other ≡ script

-- The bytes are a script of this edition without a fault, this is its printed text, and it reads back under
-- the same edition.
pub record IsTextOf (edition : Edition) (layout : Layout) (bytes text : List ℕ) : Type 0 where
  pub script : AScript
  pub outcome : Outcome edition bytes script
  pub faultless : script.fault ≡ None
  pub is : text ≡ printed layout (shape_of bytes script.entries)
  pub reads_back : ReadsBack edition text (shape_of bytes script.entries)
