use Rattle.std.proofs.Common.{◌≡◌, ℕ, suc, ◌-◌, ◌^◌, ◌<◌, ◌≤◌, inl, inr, arith, pow_mono}
use native.Mathlib.Nat.{pow-succ'}
use lib.Count.{count_leading_zeros}
use Rattle.std.proofs.lemmas.Nat.{leading_length}
use Rattle.std.proofs.lemmas.Bool.{cases_lt}
use Rattle.page_format.specs.Bits.{BitsOf}
use Rattle.page_format.proofs.bits.num_required_bits.Goals as goal

bits : (x : ℕ) → x < 2 ^ 64 → BitsOf x (64 - count_leading_zeros 64 x)
bits x h =
    let l = leading_length 64 x h in
    let e : 64 - count_leading_zeros 64 x ≡ l.0 = omega (arith, l.1) in
    rw e (record {
      fits = l.2;
      least = λ k s. elim (cases_lt k l.0) [
        | inl a ↦ (let b : suc k ≤ l.0 = a in let p : 2 ^ suc k ≤ 2 ^ l.0 = pow_mono b in absurd (omega (arith, pow-succ' 2 k, l.3)))
        | inr a ↦ a
      ];
    })

pub returns : goal.returns
returns c = bits c.args.x (omega arith)
