use Rattle.rp_policy.proofs.Steps.{none_named}
use Rattle.rp_policy.proofs.names.bits_named.Goals as goal

pub returns-in_default : goal.returns-in_default
returns-in_default c =
    let n = c.in_default in
    none_named c.args.name.now (
      n.not-verity,
      (
        n.not-signed,
        (
          n.not-encrypted,
          (
            n.not-unprotected,
            (
              n.not-unused,
              (
                n.not-absent,
                (n.not-text, (n.not-text-2, (n.not-text-3, (n.not-text-4, (n.not-open, (n.not-ignore, tt)))))),
              ),
            ),
          ),
        ),
      ),
    )
