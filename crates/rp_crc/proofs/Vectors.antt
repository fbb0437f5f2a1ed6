-- The definition at outside values.
use Rattle.std.specs.Prelude.{◌≡◌, refl, [], replicate, codes}
use Rattle.rp_crc.specs.Crc.{start, shifted, fed_bit, fed_byte, fed, inverted, crc}

-- the check value that catalogues of CRCs list for this one
check_value : crc (codes "123456789") ≡ 0xCBF43926
unfolding start shifted fed_bit fed_byte fed inverted
check_value = refl

nothing : crc [] ≡ 0
unfolding start shifted fed_bit fed_byte fed inverted
nothing = refl

zeros : crc (replicate 32 0) ≡ 0x190A55AD
unfolding start shifted fed_bit fed_byte fed inverted
zeros = refl
