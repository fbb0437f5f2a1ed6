use Rattle.rp_areas.proofs.Woven.{by_start_is}
use Rattle.rp_areas.proofs.law.there_is_one_order.Goals as goal

pub returns : goal.returns
returns c table matched es laid up rows all = by_start_is table matched es laid up rows all
