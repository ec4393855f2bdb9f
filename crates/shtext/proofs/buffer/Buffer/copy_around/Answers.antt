use Rattle.std.proofs.Common.{◌++◌, List, List as Row, ℕ, append_assoc, slice_range, arith, ap, ◌∙◌}
use Rattle.shtext.specs.Chunks.{begin_of, joined}
use Rattle.shtext.proofs.Joined.{joined_low}
use Rattle.shtext.proofs.buffer.Buffer.copy_around.Goals as goal

pub push_part-requires-clause-within : goal.push_part-requires-clause-within
push_part-requires-clause-within c = let all = joined_low c.args.to c.args.self.now.chunks.items in
    let holds = c.requires.holds in omega (arith, all, holds.high, c.requires.order)

pub push_part-requires-2-clause-within : goal.push_part-requires-2-clause-within
push_part-requires-2-clause-within c = let all = joined_low c.args.to c.args.self.now.chunks.items in
    omega (arith, all, c.begin-2.ensures)

pub returns : goal.returns
returns c =
    let ks : Row (List ℕ) = c.args.self.now.chunks.items in
    let P : ℕ → List ℕ = λ s. slice_range (joined ks) s c.args.a in
    let Q : ℕ → List ℕ = λ e. slice_range (joined ks) c.args.b e in
    let old : List ℕ = c.args.seam.now.items in
    c.push_part-2.ensures.items ∙ ap (λ l. l ++ Q c.begin-2.result) c.push_part.ensures.items
    ∙ ap (λ s. (old ++ P s) ++ Q c.begin-2.result) c.begin.ensures
    ∙ ap (λ e. (old ++ P (begin_of ks c.args.from)) ++ Q e) c.begin-2.ensures
    ∙ append_assoc old (P (begin_of ks c.args.from)) (Q (begin_of ks c.args.to))
