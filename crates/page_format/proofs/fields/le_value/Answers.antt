use Rattle.std.proofs.Common.{rules, [], ◌∷◌, ◌++◌, refl, sym, ap, ◌∙◌, arith}
use Rattle.std.proofs.lemmas.List.{append-nil, nil_from_length}
use Rattle.page_format.specs.Bits.{le_number}
use Rattle.page_format.proofs.Endian.{byte_before}
use Rattle.page_format.proofs.fields.le_value.Goals as goal

pub loop-byte-init : goal.loop-byte-init
unfolding le_number
loop-byte-init c = ([], search (rules, append-nil), refl, omega arith)

pub loop-byte-preserved : goal.loop-byte-preserved
loop-byte-preserved c =
    let v = c.loop-byte.invariant in
    let b = c.from.result in
    let rest = c.next.new.self.iter.rest.now in
    let t = byte_before c.args.bytes.now rest v.0 c.loop-byte.value b c.requires (λ i. omega (arith, c.type_inv.bytes i)) (v.1 ∙ ap (λ t. t ++ v.0) (c.in-Some.ensures.steps ∙ ap (λ x. rest ++ x ∷ []) (sym c.from.ensures))) v.2 v.3 in
    (b ∷ v.0, t.0, t.1, t.2)

pub returns : goal.returns
returns c =
    let v = c.loop-byte.invariant in
    let none = nil_from_length c.loop-byte.byte-iterator.iter.rest.now c.in-None.ensures.steps.0 in
    v.2 ∙ ap le_number (sym (v.1 ∙ ap (λ t. t ++ v.0) none))
