use Rattle.std.proofs.Common.{◌≡◌, ℕ, ◌*◌, ◌%◌, ◌^◌, ◌<◌, ◌≤◌, Some, None, Option, List, length, take, MatchOption, subst, ◌∙◌, sym, ap, arith, rules, tests}
use Rattle.std.specs.List.{AllByRecursion, AllWithin, HoldsAt}
use Rattle.std.proofs.ByRecursion.{all_from_every, All-from_get_or}
use Rattle.std.proofs.lemmas.List.{get_or-take, length-take-le}
use Rattle.std.proofs.lemmas.Iterator.{IsFirst-from_position, YieldsList-from_slice}
use Rattle.std.proofs.lemmas.Nat.{one_shl}
use Rattle.key_pages.specs.Meaning.{FirstOutside}
use Rattle.key_pages.proofs.pages.first_outside.Goals as goal

first : (b : ℕ) (ks : List ℕ) (r : Option ℕ)
    → MatchOption r (AllWithin (λ k. k < b) ks 0 (length ks)) (λ i. (i < length ks) × HoldsAt (λ k. b ≤ k) ks i × AllWithin (λ k. k < b) ks 0 i)
    → MatchOption r (AllByRecursion (λ k. k < b) ks) (λ i. FirstOutside ks b i)
first b ks None h = all_from_every (λ k. k < b) ks h
first b ks (Some i) (inside, outside, before) = record {
  inside = inside;
  outside = outside 0;
  first = All-from_get_or (λ k. k < b) (take i ks) 0 (λ k lt. let h : k < i = omega (arith, length-take-le i ks (omega arith)) in subst (λ t. t < b) (sym (get_or-take i ks k 0 h)) (before k 0 (omega arith) h));
}

pub returns : goal.returns
returns c =
    let w = c.args.width.bits in
    let b : (1 * 2 ^ c.bits.result) % 2 ^ 64 ≡ 2 ^ w = one_shl c.bits.result 64 (omega (arith, c.bits.ensures, c.args.width.narrow)) ∙ ap (λ t. 2 ^ t) c.bits.ensures in
    record {
      first = first (2 ^ w) c.args.keys.now c.position.result
          (IsFirst-from_position _ _ _ (λ k. 2 ^ w ≤ k) (λ k. k < 2 ^ w) c.position.ensures.ran (YieldsList-from_slice c.args.keys.now cc) (λ x q k. search (rules, tests, b)) (λ x q k. search (rules, tests, b)));
    }
