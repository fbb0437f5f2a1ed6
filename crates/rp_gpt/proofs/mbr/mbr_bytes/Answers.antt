use Rattle.std.proofs.Common.{◌-◌, ◌^◌, min, [], ◌∷◌, replicate, sym, ◌∙◌, arith}
use Rattle.std.proofs.lemmas.List.{take_all}
use Rattle.rp_gpt.specs.Numbers.{u32_bytes}
use Rattle.rp_gpt.proofs.Put.{five-joined}
use Rattle.rp_gpt.specs.Mbr.{mbr_bytes}
use Rattle.rp_gpt.proofs.mbr.mbr_bytes.Goals as goal

pub returns : goal.returns
unfolding mbr_bytes
returns c =
    sym (take_all 66 c.put_bytes-3.new.out (omega arith))
    ∙ rw (c.put_bytes-3.ensures, c.put_bytes-2.ensures, c.put_u32-2.ensures, c.put_u32.ensures, c.put_bytes.ensures, c.min-size.ensures, c.from.ensures)
    (five-joined (0 ∷ 0 ∷ 2 ∷ 0 ∷ 0xee ∷ 0xff ∷ 0xff ∷ 0xff ∷ []) (u32_bytes 1) (u32_bytes (min (c.args.sectors - 1) (2 ^ 32 - 1))) (replicate 48 0) (0x55 ∷ 0xaa ∷ []))
