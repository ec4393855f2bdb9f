use Rattle.std.proofs.Common.{◌≡◌, ◌+◌, ℕ, List, List as Row, length, drop, ap, sym, subst, ◌∙◌}
use Rattle.std.proofs.lemmas.List.{take_at}
use Rattle.shtext.specs.Chunks.{Refilled}
use Rattle.shtext.proofs.Filled.{refilled_anew}
use Rattle.shtext.proofs.fill.fill_anew.Goals as goal

pub returns : goal.returns
returns g c =
    let bytes : List ℕ = g.S.Source.bytes c.args.source.now in
    let ks : Row (List ℕ) = c.args.chunks.now.items in
    let ms : Row (List ℕ) = c.make_place.new.row.items in
    let js : Row (List ℕ) = c.fill_between.new.chunks in
    let end : ℕ = c.args.from + c.chunks_for-count.result in
    let ok = c.make_place.new.row.ok in
    let long : length js ≡ c.make_place.new.row.len = c.fill_between.auto.chunks ∙ ap length c.deref_mut.ensures.value
    ∙ sym ok.0 in
    let all = take_at js (drop (length js) ms) c.make_place.new.row.len long in
    let is : Refilled ms js c.args.from end bytes =
    subst (λ (l : Row (List ℕ)). Refilled l js c.args.from end bytes) c.deref_mut.ensures.value
    c.fill_between.ensures in
    subst (λ (l : Row (List ℕ)). Refilled ks l c.args.from c.args.to bytes) (sym all)
    (refilled_anew ks ms js c.args.from c.args.to end bytes c.make_place.ensures.front c.make_place.ensures.back is)
