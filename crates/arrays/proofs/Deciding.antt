-- What an opening answers, for any rules.
use Rattle.std.proofs.Common.{◌≡◌, ℕ, IsErrAnd, Ok, Err, Result, refl, inl, inr}
use Rattle.std.proofs.lemmas.Bool.{cases_order}
use Rattle.page_format.specs.Faults.{Numbered}
use Rattle.page_format.specs.declared.fault.Fault.{Fault}
use Rattle.page_format.specs.declared.fault.Layer.TheVariants.{Array}
use Rattle.page_format.specs.declared.fault.Rejection.TheVariants.{MalformedArray}
use Rattle.arrays.specs.Opening.{Rules, Within, Whole, FirstBroken, Answers, broken}

-- there is one first place
one_first : (R : Rules) (i j : ℕ) → FirstBroken R i → FirstBroken R j → i ≡ j
one_first R i j p q =
    elim (cases_order i j) [
      | inl e ↦ e
      | inr o ↦ elim o [ inl h ↦ absurd (p.breaks (q.before i h)) | inr h ↦ absurd (q.breaks (p.before j h)) ]
    ]

pub answers_broken : (R : Rules) {X : Type 0} (j : ℕ) (f : Fault) → Within R → Whole R → FirstBroken R j → f ≡ record { number = MalformedArray; layer = Array; place = j } → Answers R {X = X} (Err f)
answers_broken R j f within whole first e =
    let is : Numbered 1 1 j f = rw e (refl, refl, refl) in
    record {
      at_above = λ above. absurd (within above);
      at_malformed = λ _ bad. absurd (whole bad);
      at_broken = λ i _ _ other. rw (one_first R i j other first) is;
      at_fit = λ fit. absurd (first.breaks (fit.each j first.inside));
      only = broken j within whole first is;
    }

-- a fault that is passed on by `?`
pub answers_passed : (R : Rules) {X Y : Type 0} (f : Fault) (r : Result Y Fault) → IsErrAnd r (λ e. e ≡ f) → Answers R {X = X} (Err f) → Answers R r
answers_passed R f (Ok y) same a = absurd same
answers_passed R f (Err e) same a =
    rw same (record {
      at_above = a.at_above;
      at_malformed = a.at_malformed;
      at_broken = a.at_broken;
      at_fit = a.at_fit;
      only = a.only;
    })
