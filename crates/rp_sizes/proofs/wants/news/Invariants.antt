use Rattle.std.proofs.Common.{◌≡◌, ◌++◌, drop}
use Rattle.std.specs.List.{enumerate_from, filter_map}
use Rattle.rp_sizes.specs.News.{new_of, news_of}
use Rattle.rp_sizes.proofs.wants.news.Given as goal

abbrev pub invariant-loop-file : goal.invariant-loop-file
invariant-loop-file l =
    l.news ++ filter_map (new_of l.matched l.wants) (enumerate_from l.file (drop l.file l.defs)) ≡ news_of l.matched l.wants l.defs
