use Rattle.rp_areas.proofs.Matched.{matched_both, matched_distinct, matched_len, matched_places}
use Rattle.rp_areas.proofs.law.rows_go_by_type_and_order.Goals as goal

pub returns-clause-matched : goal.returns-clause-matched
returns-clause-matched c rows kinds file place = matched_both rows kinds file place

pub returns-clause-len : goal.returns-clause-len
returns-clause-len c rows kinds = matched_len rows kinds

pub returns-clause-places : goal.returns-clause-places
returns-clause-places c rows kinds = matched_places rows kinds

pub returns-clause-distinct : goal.returns-clause-distinct
returns-clause-distinct c rows kinds = matched_distinct rows kinds
