use Rattle.std.proofs.Common.{◌+◌, ◌^◌, ◌<◌, ◌≤◌, length, ap, refl, subst, arith}
use Rattle.std.specs.List.{AllByRecursion}
use Rattle.page_format.specs.Writes.{Wrote}
use Rattle.key_pages.specs.Meaning.{FirstOutside}
use Rattle.key_pages.specs.Runs.{page, most_bytes}
use Rattle.key_pages.specs.Claims.{key_outside}
use Rattle.key_pages.proofs.pages.write_key_page.Goals as goal

pub returns-in-Some-clause-written : goal.returns-in-Some-clause-written
returns-in-Some-clause-written c =
    let (limits, is) = c.in_ok-width.ensures.limited in
    let ks = c.args.keys.now in
    let room : 1 + most_bytes c.args.width (length ks) ≤ length c.args.out.now = omega (arith, ap (λ w. most_bytes w (length ks)) is) in
    let outside = subst (λ w. FirstOutside ks (2 ^ w) c.in-Some.place) is c.in-Some.ensures.first in
    rw c.new-in-Some.ensures (key_outside limits room c.in-Some.place outside (refl, refl, refl), refl)

pub returns-clause-written : goal.returns-clause-written
returns-clause-written c =
    let (limits, is) = c.in_ok-width.ensures.limited in
    let ks = c.args.keys.now in (
      record {
        limited = limits;
        room_is = omega (arith, ap (λ w. most_bytes w (length ks)) is);
        inside = subst (λ w. AllByRecursion (λ k. k < 2 ^ w) ks) is c.in_default.ensures.first;
      },
      subst (λ w. Wrote (page w ks) 0 c.args.out.now c.write_runs.result c.write_runs.new.out) is c.write_runs.ensures.wrote,
    )
