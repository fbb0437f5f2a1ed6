use Rattle.rp_sizes.proofs.NewsLemmas.{news_rise}
use Rattle.rp_sizes.proofs.law.new_definitions_rise.Goals as goal

pub returns : goal.returns
returns c matched wants defs = news_rise matched wants defs
