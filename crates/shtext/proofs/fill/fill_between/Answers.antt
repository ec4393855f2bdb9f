use Rattle.std.proofs.Common.{◌≡◌, ◌+◌, ◌-◌, ◌++◌, ℕ, List, List as Row, take, drop, arith, ap, ◌∙◌, length-drop}
use Rattle.std.proofs.lemmas.List.{drop-drop, length-take-le}
use Rattle.shtext.proofs.fill.fill_between.Goals as goal

pub returns : goal.returns
returns g c =
    let ks : Row (List ℕ) = c.args.chunks.now in
    let from : ℕ = c.args.from in
    let to : ℕ = c.args.to in
    let new : Row (List ℕ) = c.fill.new.chunks in
    let there : from + (to - from) ≡ to = omega (arith, c.requires.count) in
    let rest = length-drop from ks in
    let long = length-take-le (to - from) (drop from ks) (omega (arith, rest, c.requires.within)) in
    record {
      filled = new;
      row = ap (λ l. take from ks ++ (new ++ l)) (drop-drop (to - from) from ks)
          ∙ ap (λ m. take from ks ++ (new ++ drop m ks)) there;
      count = omega (arith, c.fill.auto.chunks, long, c.requires.count);
      all = c.fill.ensures.bytes;
      each = c.fill.ensures.each;
    }
