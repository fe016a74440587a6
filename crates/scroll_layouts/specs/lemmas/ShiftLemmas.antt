-- What a shift cites. The lemma is proved, and promises nothing.
use Rattle.std.proofs.Common.{◌≡◌, ℕ, ◌-◌, ◌*◌, ◌^◌, ◌≤◌, arith}
use Rattle.std.proofs.Math.Nat.{pow-le-pow_right, mul-le-mul}
use Rattle.std.specs.Prelude.{min}

-- a shift by 64 bits and more has no room
pub shift-great : (n b : ℕ) → (n ≡ 0 → ⊥) → 64 ≤ b → 2 ^ 64 - 1 ≡ min (n * 2 ^ b) (2 ^ 64 - 1)
shift-great n b some great =
    let most : 2 ^ 64 ≤ 2 ^ b = pow-le-pow_right {n = 2} (omega arith) great in
    let one : 1 ≤ n = grind (arith, some) in
    let times : 1 * 2 ^ b ≤ n * 2 ^ b = mul-le-mul one (omega arith) in
    omega (arith, most, times)
