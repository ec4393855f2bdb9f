use Rattle.std.proofs.Common.{◌≡◌, ap, sym, ◌∙◌, ◌∷◌, rules}
use Rattle.shlive.specs.RequestKinds.{part_of_words, words}
use Rattle.shlive.proofs.Words.{part_too_many}
use Rattle.shlive.proofs.request_kind.part_of.Goals as goal

pub returns-in_default-Some-cut_word-2 : goal.returns-in_default-Some-cut_word-2
returns-in_default-Some-cut_word-2 c =
    let a = c.cut_word.result.0.now in
    let b = c.cut_word-2.result.0.now in
    let n = c.cut_word-3.result.0.now in
    let r = c.in_default-Some.rest.now in
    let s = c.in_default-Some-cut_word.rest.now in
    let first : words c.args.line.now ≡ a ∷ words r =
    search (rules, c.cut_word.ensures, c.in_default-Some.is-1, c.in_default-Some.rest-is) in
    let second : words r ≡ b ∷ words s = search (rules, c.cut_word-2.ensures, c.in_default-Some-cut_word.is-1) in
    let third : words s ≡ n ∷ words c.in_default-Some-cut_word-2.field-0-1.now =
    search (rules, c.cut_word-3.ensures, c.in_default-Some-cut_word-2.is-1) in
    sym (ap part_of_words (first ∙ ap (λ ws. a ∷ ws) (second ∙ ap (λ ws. b ∷ ws) third))
    ∙ part_too_many a b n c.in_default-Some-cut_word-2.field-0-1.now)
