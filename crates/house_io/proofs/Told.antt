-- What a sink tells over several calls.
use Rattle.std.proofs.Common.{ℕ, List, [], ◌++◌, Option, None, Some, sym, ap, ◌∙◌, append_assoc, append-nil, subst}
use Rattle.house_io.specs.Sink.{AppendsWhereTold, SameWhereTold}

-- no call appends nothing
pub AppendsWhereTold-refl : (given : Option (List ℕ)) → AppendsWhereTold given given []
AppendsWhereTold-refl None = tt
AppendsWhereTold-refl (Some past) = sym (append-nil past)

-- one piece and then another
pub AppendsWhereTold-trans : (first middle last : Option (List ℕ)) (some more : List ℕ) → AppendsWhereTold first middle some → AppendsWhereTold middle last more → AppendsWhereTold first last (some ++ more)
AppendsWhereTold-trans first middle None some more a b = tt
AppendsWhereTold-trans None None (Some now) some more a b = b
AppendsWhereTold-trans (Some past) None (Some now) some more a b = absurd b
AppendsWhereTold-trans None (Some then) (Some now) some more a b = absurd a
AppendsWhereTold-trans (Some past) (Some then) (Some now) some more a b = b ∙ ap (λ bytes. bytes ++ more) a ∙ append_assoc past some more

-- one piece, and then a call that gives nothing
pub AppendsWhereTold-same : (first middle last : Option (List ℕ)) (some : List ℕ) → AppendsWhereTold first middle some → SameWhereTold middle last → AppendsWhereTold first last some
AppendsWhereTold-same first middle None some a b = tt
AppendsWhereTold-same first middle (Some now) some a b = subst (λ given. AppendsWhereTold first given some) b a
