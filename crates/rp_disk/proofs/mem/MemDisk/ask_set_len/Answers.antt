use Rattle.std.proofs.Common.{rules, inl}
use Rattle.rp_disk.proofs.mem.MemDisk.ask_set_len.Goals as goal

pub returns-clause-exact : goal.returns-clause-exact
returns-clause-exact c = record {
  number = search rules;
  same = search rules;
  outcome = inl record {
    starved = search rules;
    exact = record { ok = search rules; err = search rules };
    done = search rules;
    failed = search rules;
  };
}
