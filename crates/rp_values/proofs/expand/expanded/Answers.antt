use Rattle.std.proofs.Common.{Some, None, lit<, rules}
use Rattle.std.proofs.lemmas.Str.Pattern.{split_parts}
use Rattle.rp_values.proofs.ExpandLemmas.{expanded-more, expanded-none, expanded-last}
use Rattle.rp_values.proofs.expand.expanded.Goals as goal

pub returns-in_default-specifier : goal.returns-in_default-specifier
returns-in_default-specifier c =
    let cut = split_parts 37 c.loop-front.rest.now (Some (c.in-Some.front, c.in-Some.behind)) c.in-Some.ensures.cases (lit< tt) in
    expanded-none _ _ _ _ _ _ c.loop-front.invariant.same cut c.in_default-specifier.ensures.meaning

pub loop-front-preserved : goal.loop-front-preserved
loop-front-preserved c =
    let cut = split_parts 37 c.loop-front.rest.now (Some (c.in-Some.front, c.in-Some.behind)) c.in-Some.ensures.cases (lit< tt) in
    record {
      utf8 = search rules;
      same =
          expanded-more _ _ _ _ _ _ _ _ _ _ c.loop-front.invariant.same cut c.in-Some-specifier.ensures.meaning c.in_ok-push_str.ensures.bytes
          c.in_ok-push_str-2.ensures.bytes;
    }

pub returns : goal.returns
returns c =
    let none = split_parts 37 c.loop-front.rest.now None c.in_default.ensures.cases (lit< tt) in
    expanded-last _ _ _ _ _ c.loop-front.invariant.same none c.in_ok-push_str-3.ensures.bytes
