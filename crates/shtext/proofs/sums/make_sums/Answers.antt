use Rattle.std.proofs.Common.{◌≡◌, ◌+◌, ◌-◌, ◌++◌, ℕ, List, drop, length, vec_len, arith, ap, sym, ◌∙◌, length-drop}
use Rattle.std.proofs.lemmas.List.{take-append-drop}
use Rattle.shtext.specs.Rows.{last_moved}
use Rattle.shtext.proofs.Rows.{brought_back}
use Rattle.shtext.proofs.sums.make_sums.Goals as goal

pub returns-else-count-held-clause-back : goal.returns-else-count-held-clause-back
returns-else-count-held-clause-back c =
    let R : List ℕ = c.args.sums.now.items in
    let S : List ℕ = c.push_zeros.new.into.items in
    let more : ℕ = c.args.count - (c.args.to - c.args.from) in
    let ok = c.args.sums.now.ok in
    let ok_new = c.push_zeros.new.into.ok in
    let N : List ℕ = drop (vec_len c.args.sums.now) S in
    let is : S ≡ R ++ N = sym (take-append-drop (vec_len c.args.sums.now) S)
    ∙ ap (λ l. l ++ N) c.push_zeros.ensures.front in
    let many : length N ≡ more = length-drop (vec_len c.args.sums.now) S
    ∙ omega (arith, ok_new.0, c.push_zeros.ensures.count) in
    let long : vec_len c.push_zeros.new.into ≡ length R + more = omega (arith, ok.0, c.push_zeros.ensures.count) in
    let there : c.args.from + c.args.count ≡ c.args.to + more =
    omega (arith, c.requires.order, c.if-count-held.false) in
    let made = c.to_place.ensures.items ∙ ap (λ n. last_moved S n c.args.to more) long
    ∙ ap (λ p. last_moved p (length R + more) c.args.to more) is in
    ap (λ n. drop n c.to_place.new.row.items) there
    ∙ brought_back R N c.to_place.new.row.items c.args.to more (omega (arith, c.requires.within, ok.0)) many made
