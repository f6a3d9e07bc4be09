use Rattle.fac_expand.proofs.direct_places.group_at.Goals as goal

pub returns-in-Some-quotation_of : goal.returns-in-Some-quotation_of
returns-in-Some-quotation_of c = c.quoted.ensures
