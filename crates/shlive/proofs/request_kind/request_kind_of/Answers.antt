use Rattle.std.proofs.Common.{◌≡◌, ap, rules, sym, ◌∙◌}
use Rattle.shlive.specs.RequestKinds.{kind_by_name, kind_of_words, words}
use Rattle.shlive.proofs.Words.{by_name}
use Rattle.shlive.proofs.request_kind.request_kind_of.Goals as goal

pub returns-in_default-Some : goal.returns-in_default-Some
returns-in_default-Some c =
    let line = rw c.in_default-Some.is-1 at c.cut_word.ensures in
    let told : c.kind_by_name.result ≡ kind_by_name c.cut_word.result.0.now (words c.in_default-Some.rest.now) =
    search (rules, c.kind_by_name.ensures.is, c.in_default-Some.rest-is) in
    record {
      is = told ∙ sym (ap kind_of_words line ∙ by_name c.cut_word.result.0.now c.in_default-Some.rest.now);
      parts = c.kind_by_name.ensures.parts;
    }
