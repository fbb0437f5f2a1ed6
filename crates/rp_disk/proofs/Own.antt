-- What a disk in memory notes holds of its own past.
use Rattle.std.proofs.Common.{ℕ, ◌+◌, ◌≤◌, List, [], ◌∷◌, ◌++◌, ◌≡◌, length, refl, sym, ◌∙◌, ap}
use Rattle.rp_base.specs.Image.{bytes_at}
use Rattle.rp_disk.specs.History.{held}
use Rattle.rp_disk.specs.Made.{Made, Past, history_of}
use Rattle.rp_disk.specs.Device.{Answer, Measured, Gave, Missed, AllHold}
use Rattle.rp_disk.proofs.Noting.{all_hold-more}

module _ (past : Past) (calls noted : List Made) (image : List ℕ) (answers : List Answer) (logged : noted ≡ calls) (shows : held (history_of past calls) ≡ image)
    (told : AllHold past answers) where
  image_is : image ≡ held (history_of past noted)
  image_is = sym shows ∙ ap (λ l. held (history_of past l)) (sym logged)

  pub told_length : AllHold past (answers ++ Measured noted (length image) ∷ [])
  told_length = all_hold-more past answers (Measured noted (length image) ∷ []) told (ap length image_is, tt)

  pub told_read : (at : ℕ) (bytes : List ℕ) → at + length bytes ≤ length image → bytes ≡ bytes_at image at (length bytes)
      → AllHold past (answers ++ Gave noted at bytes ∷ [])
  told_read at bytes inside is =
      all_hold-more past answers (Gave noted at bytes ∷ []) told
      ((rw (← image_is) inside, is ∙ ap (λ b. bytes_at b at (length bytes)) image_is), tt)

pub told_missed : (past : Past) (noted : List Made) (end : ℕ) (answers : List Answer) → AllHold past answers → AllHold past (answers ++ Missed noted end ∷ [])
told_missed past noted end answers told = all_hold-more past answers (Missed noted end ∷ []) told (tt, tt)
