-- FNV-1a at 64 bits, as published: http://www.isthe.com/chongo/tech/comp/fnv
use Rattle.std.specs.Prelude.{ℕ, ◌*◌, ◌%◌, ◌^◌, fold, bit_xor}
use Rattle.page_format.specs.Plain.{Bytes}

abbrev pub fnv_basis : ℕ
fnv_basis = 0xcbf29ce484222325

abbrev pub fnv_prime : ℕ
fnv_prime = 0x100000001b3

-- one byte: exclusive or, then the product, which wraps at 64 bits
abbrev pub fnv_step : ℕ → ℕ → ℕ
fnv_step h b = (bit_xor h b * fnv_prime) % 2 ^ 64

-- the hash that begins at `basis`
abbrev pub fnv_from : ℕ → Bytes → ℕ
fnv_from basis v = fold fnv_step basis v
