-- What the reader has of a list, and of the items of a `case`, in the definitions.
use Rattle.std.specs.Prelude.{map}
use Rattle.shline.specs.declared.case.Cases as the_cases
use Rattle.shline.specs.declared.list.Listed as the_listed
use Rattle.shgrammar.specs.declared.token.Next.{Next}
use Rattle.shast.specs.View.{view_case_item, view_entry, view_join}
use Rattle.shgrammar.specs.Compounds.{CasesSoFar, cases_so_far}
use Rattle.shgrammar.specs.Lists.{Listed}

abbrev pub view_listed : the_listed.Listed → Listed
view_listed l = record {
  entries = map view_entry l.entries.items;
  blank = l.blank;
  begun = l.begun;
  commands = l.commands;
  parted = l.parted;
}

abbrev pub view_cases : the_cases.Cases → Next → CasesSoFar
view_cases c n = cases_so_far (map view_case_item c.items.items) (view_join c.lines).comments n
