use Rattle.std.proofs.Common.{Err, refl, ap, ◌∙◌, rules}
use Rattle.std.proofs.lemmas.Result.{err_from_is_err_and}
use Rattle.interner.specs.Interning.{found}
use Rattle.interner.proofs.Steps.{step_known, step_new}
use Rattle.interner.proofs.Walks.{absent_free, sound_free, never_full}
use Rattle.interner.proofs.interner.Interner.intern.Goals as goal

pub returns-in-Hit-clause-step : goal.returns-in-Hit-clause-step
returns-in-Hit-clause-step g c = λ s. step_known _ _ _ _ c.in-Hit.key s.distinct c.in-Hit.ensures

pub returns-in-Hit-clause-answer : goal.returns-in-Hit-clause-answer
returns-in-Hit-clause-answer g c = found c.in-Hit.key c.in-Hit.ensures refl refl

pub returns-in_ok-key-in-Free-clause-step : goal.returns-in_ok-key-in-Free-clause-step
returns-in_ok-key-in-Free-clause-step g c =
    let told = c.in_ok-key-in-Free.ensures in
    λ s. step_new _ _ _ _ _ _ (absent_free s c.in-Free.ensures) told.answer told.grown

pub returns-in_ok-key-in-Free-clause-sound : goal.returns-in_ok-key-in-Free-clause-sound
returns-in_ok-key-in-Free-clause-sound g c =
    let told = c.in_ok-key-in-Free.ensures in
    λ s. sound_free (g.S.Storage.store c.args.self.now.storage) c.args.place c.in_ok-key-in-Free.key (g.S.Storage.entries c.push.new.self) s c.in-Free.ensures told.answer told.grown (search rules)

pub returns-in-Full-clause-step : goal.returns-in-Full-clause-step
returns-in-Full-clause-step g c = λ s. absurd (never_full c.args.value.now (g.met.S.Storage.kept c.args.self.now.storage).few s c.in-Full.ensures)

pub returns-in-Full-clause-sound : goal.returns-in-Full-clause-sound
returns-in-Full-clause-sound g c = λ s. absurd (never_full c.args.value.now (g.met.S.Storage.kept c.args.self.now.storage).few s c.in-Full.ensures)

pub returns-in_err-key-in-Free-clause-step : goal.returns-in_err-key-in-Free-clause-step
returns-in_err-key-in-Free-clause-step g c =
    let told = c.in_err-key-in-Free.ensures in
    let (f, e, q) = err_from_is_err_and c.from_residual.result c.from_residual.ensures.1 in
    λ s. rw (e ∙ ap Err q) (step_new _ _ _ _ _ _ (absent_free s c.in-Free.ensures) told.answer told.grown)
