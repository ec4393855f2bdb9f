use Rattle.std.proofs.Common.{◌≡◌, ◌≤◌, ◌++◌, List, ℕ, length, take, arith, ap, sym, subst, ◌∙◌, append_assoc}
use Rattle.std.proofs.lemmas.List.{take-append-drop}
use Rattle.shtext.specs.Chunks.{AreFull, EachHas, joined, most}
use Rattle.shtext.proofs.Fullness.{Each, NotSmall, each_push, full_end}
use Rattle.shtext.proofs.Joined.{joined_nil, joined_push}
use Rattle.shtext.proofs.cut.cut.Goals as goal

pub chunks-init : goal.chunks-init
chunks-init c =
    let is = c.in_ok-chunks.ensures.items in
    let none = ap length is in
    record {
      bytes = ap (λ ks. joined ks ++ c.args.bytes.now) is ∙ ap (λ l. l ++ c.args.bytes.now) joined_nil;
      each = λ n low. absurd (omega (arith, low, none));
      some = λ _ n low. absurd (omega (arith, low, none));
      full = λ n low. absurd (omega (arith, low, none));
    }

pub chunks-preserved : goal.chunks-preserved
chunks-preserved c =
    let inv = c.chunks.invariant in
    let rest = c.chunks.rest.now in
    let front = c.split_at.result.0.now in
    let after = c.split_at.result.1.now in
    let ks = c.chunks.chunks.items in
    let made = ap joined c.in_ok-push.ensures.items ∙ joined_push ks c.in_ok-chunk.chunk
    ∙ ap (λ k. joined ks ++ k) c.in_ok-chunk.ensures in
    let both : front ++ after ≡ rest = ap (λ l. l ++ after) c.split_at.ensures.front
    ∙ ap (λ l. take c.min.result rest ++ l) c.split_at.ensures.back ∙ take-append-drop c.min.result rest in
    let some : 1 ≤ length rest = grind (arith, c.is_empty.ensures, c.chunks-test.true) in
    let long = ap length c.in_ok-chunk.ensures in
    let all : Each NotSmall ks = inv.some some in
    record {
      bytes = ap (λ l. l ++ after) made ∙ append_assoc (joined ks) front after ∙ ap (λ l. joined ks ++ l) both
          ∙ inv.bytes;
      each = subst (EachHas 1) (sym c.in_ok-push.ensures.items)
          (each_push (λ (k : List ℕ). (1 ≤ length k) × (length k ≤ most)) ks c.in_ok-chunk.chunk inv.each (
            omega (arith, long, c.split_at.ensures.front_len, c.min.ensures, some),
            omega (arith, long, c.split_at.ensures.front_len, c.min.ensures),
          ));
      some = λ more. subst (Each NotSmall) (sym c.in_ok-push.ensures.items)
          (each_push NotSmall ks c.in_ok-chunk.chunk all
          (omega (
            arith,
            ap length c.in_ok-chunk.ensures,
            c.split_at.ensures.front_len,
            c.split_at.ensures.back_len,
            more,
            c.min.ensures,
          )));
      full = subst AreFull (sym c.in_ok-push.ensures.items) (full_end ks c.in_ok-chunk.chunk all);
    }
