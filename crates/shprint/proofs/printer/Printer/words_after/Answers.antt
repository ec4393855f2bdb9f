use Rattle.std.proofs.Common.{◌≡◌, ◌∷◌, arith}
use Rattle.shprint.proofs.Spaced.{none_passed, one_passed}
use Rattle.shprint.proofs.printer.Printer.words_after.Goals as goal

pub words-init : goal.words-init
words-init g c = (
  omega arith,
  λ y m t. none_passed (g.S.Source.bytes c.args.self.now.source.now) y m c.args.start c.args.items.now t,
)

pub words-preserved : goal.words-preserved
words-preserved g c =
    let bytes = g.S.Source.bytes c.args.self.now.source.now in
    let inv = c.words.invariant in
    let word = c.in-Some-word_after.ensures in
    let split : c.words.rest.now ≡ c.in-Some.item.now ∷ c.in-Some.behind.now =
    grind (arith, c.in-Some.ensures, c.split_first.ensures, c.in-Some.item-is, c.in-Some.behind-is) in (
      omega (arith, inv.0, word.onward),
      λ y m t. one_passed bytes y m c.args.start c.words.end c.in-Some-word_after.next _ c.in-Some.item.now
          c.in-Some.behind.now inv.0 word.onward (λ t. rw split at (inv.1 y m t)) (word.word y m) t,
    )
