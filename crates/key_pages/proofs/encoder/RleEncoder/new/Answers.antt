use Rattle.std.proofs.Common.{◌≡◌, ◌%◌, ◌∷◌, [], ◌++◌, take, refl, ap, ◌∙◌, pow_pos, arith}
use Rattle.page_format.specs.Bits.{le_bytes}
use Rattle.page_format.specs.Writes.{Appends}
use Rattle.page_format.proofs.Writing.{appends_done}
use Rattle.key_pages.specs.Held.{front_of}
use Rattle.key_pages.proofs.encoder.RleEncoder.new.Goals as goal

pub returns-clause-holds : goal.returns-clause-holds
unfolding le_bytes
returns-clause-holds c =
    let w = c.args.width.bits in
    let a : Appends (c.bits.result % 256 ∷ []) c.args.out.now c.write_le.new.self = appends_done _ _ _ _ _ _ c.write_le.ensures.written c.unwrap.ensures in
    let low : c.bits.result % 256 ≡ w = omega (arith, c.bits.ensures, c.args.width.narrow) in
    let front : front_of c.write_le.new.self ≡ w ∷ [] =
    a.wrote.front ∙ ap (λ t. take t c.args.out.now.bytes.now ++ c.bits.result % 256 ∷ []) c.requires.front ∙ ap (λ t. t ∷ []) low in
    record {
      stands = record {
        page = record { front = front; open_is = refl };
        keys = record { eight = refl; waits = refl; waiting_is = refl };
        last_is = refl;
        inside = (pow_pos w, tt);
      };
      counts = (refl, omega arith);
    }
