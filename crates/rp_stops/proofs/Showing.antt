-- What an image shows in the midst of a plan's calls, by the order of the copies.
use Rattle.std.proofs.Common.{◌≡◌, ℕ, ◌⊎◌, List, [], ◌∷◌, ◌++◌, length, refl, sym, ap₂, ◌∙◌, subst, inl, inr}
use Rattle.rp_base.specs.declared.geometry.Which.{Which}
use Rattle.rp_base.specs.declared.geometry.Which.TheVariants.{Primary, Backup}
use Rattle.rp_base.specs.declared.table.Table.{Table}
use Rattle.rp_disk.specs.declared.call.Call.{Call}
use Rattle.rp_disk.specs.Blocks.{EachBlock}
use Rattle.rp_disk.specs.Calls.{all_done}
use Rattle.rp_disk.specs.Stops.{Each}
use Rattle.rp_disk.proofs.Blocks.{Each-imp}
use Rattle.rp_gpt.specs.Shown.{IsTold, Told, shows, refuses, nothing, first_told, shown, told_at}
use Rattle.rp_stops.specs.Order.{contents_blocks}
use Rattle.rp_stops.specs.Writers.{Event, calls_of, ours, others}
use Rattle.rp_stops.proofs.Cuts.{each_call}
use Rattle.rp_stops.proofs.Stages.{Stages}
use Rattle.rp_stops.proofs.Cells.{Layout, Steady, Calm, Same, same-then, HasGoal, same-goal, SameNews, news-then, kept_length, whole, steady_same, calm_news}
use Rattle.rp_stops.proofs.Copying.{closing, filling, opening, Within, copy_stages}

-- what two places show, by what each may tell

-- where a place tells, it tells this or the goal
abbrev pub Torn : Told → Table → Told → Type 0
Torn before goal now = IsTold now → (now ≡ before) ⊎ (now ≡ shows goal)

pub told_first : (primary backup : Told) → IsTold primary → first_told primary backup ≡ primary
told_first (shows table) backup told = refl
told_first (refuses fault) backup told = refl
told_first nothing backup told = absurd told

-- the primary is torn, the backup has the goal
torn_primary : (before backup : Told) (goal : Table) (now : Told) → Torn before goal now
    → (first_told now (shows goal) ≡ first_told before backup) ⊎ (first_told now (shows goal) ≡ shows goal)
torn_primary before backup goal nothing torn = inr refl
torn_primary before backup goal (shows table) torn =
    elim (torn tt) [ inl old ↦ inl (subst (λ x. shows table ≡ first_told x backup) old refl) | inr new ↦ inr new ]
torn_primary before backup goal (refuses fault) torn =
    elim (torn tt) [ inl old ↦ inl (subst (λ x. refuses fault ≡ first_told x backup) old refl) | inr new ↦ absurd (cc) ]

-- the primary is torn and told nothing before, the backup is kept
torn_over_kept : (backup : Told) (goal : Table) (now : Told) → Torn nothing goal now
    → (first_told now backup ≡ backup) ⊎ (first_told now backup ≡ shows goal)
torn_over_kept backup goal nothing torn = inl refl
torn_over_kept backup goal (shows table) torn = elim (torn tt) [ inl old ↦ absurd (cc) | inr new ↦ inr new ]
torn_over_kept backup goal (refuses fault) torn = elim (torn tt) [ inl old ↦ absurd (cc) | inr new ↦ absurd (cc) ]

-- nothing was told before
torn_none : (goal : Table) (now : Told) → Torn nothing goal now → (now ≡ nothing) ⊎ (now ≡ shows goal)
torn_none goal nothing torn = inl refl
torn_none goal (shows table) torn = torn tt
torn_none goal (refuses fault) torn = torn tt

module _ (L : Layout) (O : Call → Type 0) (calm : (call : Call) → O call → Calm L call) (goal : Table) (was : Told)
    (opened : (xs : List ℕ) → length xs ≡ L.len → (which : Which) → HasGoal L which xs → told_at L.sector xs which ≡ shows goal) where
  -- a place tells this as long as it is as in an image
  abbrev pub Standing : Which → List ℕ → Told → Type 0
  Standing which base a = (xs : List ℕ) → length xs ≡ L.len → Same L which base xs → told_at L.sector xs which ≡ a

  pub standing-moves : (which : Which) (base image : List ℕ) (a : Told) → Same L which base image → Standing which base a
      → Standing which image a
  standing-moves which base image a same standing xs long later = standing xs long (same-then L which base image xs same later)

  -- the image has its length, and shows what was shown, or the goal, and the new rows are as they were filled
  pub record Outcome (filled new : List ℕ) : Type 0 where
    pub len : length new ≡ L.len
    pub shows_it : (shown L.sector new ≡ was) ⊎ ((shown L.sector new ≡ shows goal) × SameNews L filled new)

  shown_by : (xs : List ℕ) (primary backup : Told) → told_at L.sector xs Primary ≡ primary → told_at L.sector xs Backup ≡ backup
      → shown L.sector xs ≡ first_told primary backup
  unfolding shown
  shown_by xs primary backup p b = ap₂ first_told p b

  shown_told : (xs : List ℕ) (primary : Told) → told_at L.sector xs Primary ≡ primary → IsTold primary → shown L.sector xs ≡ primary
  shown_told xs primary p told = shown_by xs primary (told_at L.sector xs Backup) p refl
      ∙ told_first primary (told_at L.sector xs Backup) told

  torn_of : (which : Which) (base new : List ℕ) (a : Told) → Standing which base a → Within L O calm which base new
      → Torn a goal (told_at L.sector new which)
  torn_of which base new a standing within told = elim (within.torn told) [
    | inl same ↦ inl (standing new within.keeps.len same)
    | inr has ↦ inr (opened new within.keeps.len which has)
  ]

  -- the three blocks of each copy
  abbrev pub copies_of : List Which → List (List Call)
  copies_of [] = []
  copies_of (which ∷ order) = (closing L O calm which ∷ []) ∷ (filling L O calm which ∷ []) ∷
      (opening L O calm which ∷ []) ∷ copies_of order

  part_calls : (P : Call → Type 0) → ((call : Call) → Calm L call → P call) → (part : List Event) (block : List Call) → ours part ≡ block
      → Each P block → Each O (others part) → Each P (calls_of part)
  part_calls P of_calm part block is each others_in =
      each_call P part (subst (Each P) (sym is) each) (Each-imp O P (λ c o. of_calm c (calm c o)) (others part) others_in)

  module _ (late : List (List Call)) (late_calm : EachBlock (Calm L) late) where
    -- calm blocks leave the primary and the new rows alone
    late_stages : (blocks : List (List Call)) → EachBlock (Calm L) blocks → (image new : List ℕ) → length image ≡ L.len
        → Stages L.sector O image blocks new
        → (length new ≡ L.len) × Same L Primary image new × SameNews L image new
    late_stages [] each image new long (end, others_in, stop) =
        let all = Each-imp O (Calm L) calm end others_in in (
          kept_length L (Calm L) (λ c q. q.steady.inside) image end new long all stop.agrees,
          steady_same L Primary image end new long (Each-imp (Calm L) (Steady L) (λ c q. q.steady) end all) stop.agrees,
          calm_news L image end new long all stop.agrees,
        )
    late_stages (block ∷ blocks) each image new long (part, is, others_in, inl stop) =
        let all = part_calls (Calm L) (λ c q. q) part block is each.0 others_in in (
          kept_length L (Calm L) (λ c q. q.steady.inside) image (calls_of part) new long all stop.agrees,
          steady_same L Primary image (calls_of part) new long
              (Each-imp (Calm L) (Steady L) (λ c q. q.steady) (calls_of part) all) stop.agrees,
          calm_news L image (calls_of part) new long all stop.agrees,
        )
    late_stages (block ∷ blocks) each image new long (part, is, others_in, inr later) =
        let all = part_calls (Calm L) (λ c q. q) part block is each.0 others_in in
        let next = all_done image (calls_of part) in
        let agrees = whole L (Calm L) (λ c q. q.steady.inside) image (calls_of part) long all in
        let rest = late_stages blocks each.1 (all_done image (calls_of part)) new
        (kept_length L (Calm L) (λ c q. q.steady.inside) image (calls_of part)
        (all_done image (calls_of part)) long all agrees) later in (
          rest.0,
          same-then L Primary image (all_done image (calls_of part)) new
              (steady_same L Primary image (calls_of part) (all_done image (calls_of part)) long
              (Each-imp (Calm L) (Steady L) (λ c q. q.steady) (calls_of part) all) agrees) rest.1,
          news-then L image (all_done image (calls_of part)) new
              (calm_news L image (calls_of part) (all_done image (calls_of part)) long all agrees) rest.2,
        )

    -- behind the copies the goal is shown by the primary
    late_goal : (filled image new : List ℕ) → length image ≡ L.len → HasGoal L Primary image → SameNews L filled image
        → Stages L.sector O image late new → Outcome filled new
    late_goal filled image new long has news stages =
        let rest = late_stages late late_calm image new long stages in record {
          len = rest.0;
          shows_it = inr (
            shown_told new (shows goal) (opened new rest.0 Primary (same-goal L Primary image new rest.1 has)) tt,
            news-then L filled image new news rest.2,
          );
        }

    -- the primary is written while the backup has the goal
    primary_last : (filled image new : List ℕ) (a b : Told) → length image ≡ L.len → HasGoal L Backup image → Standing Primary image a
        → was ≡ first_told a b
        → SameNews L filled image → Stages L.sector O image (copies_of (Primary ∷ []) ++ late) new → Outcome filled new
    primary_last filled image new a b long has standing was_is news stages =
        elim (copy_stages L O calm Primary late image new long stages) [
          | inl within ↦
              let backup = opened new within.keeps.len Backup (same-goal L Backup image new within.keeps.other has) in
              let now = shown_by new (told_at L.sector new Primary) (shows goal) refl backup in
              record {
                len = within.keeps.len;
                shows_it = elim (torn_primary a b goal (told_at L.sector new Primary) (torn_of Primary image new a standing within)) [
                  | inl old ↦ inl (now ∙ old ∙ sym was_is)
                  | inr is ↦ inr (now ∙ is, news-then L filled image new news within.keeps.news)
                ];
              }
          | inr behind ↦
              let after = behind.1 in
              late_goal filled behind.0 new after.keeps.len after.goal (news-then L filled image behind.0 news after.keeps.news) behind.2
        ]

    -- the backup is written while the primary has the goal
    backup_last : (filled image new : List ℕ) → length image ≡ L.len → HasGoal L Primary image → SameNews L filled image
        → Stages L.sector O image (copies_of (Backup ∷ []) ++ late) new → Outcome filled new
    backup_last filled image new long has news stages =
        elim (copy_stages L O calm Backup late image new long stages) [
          | inl within ↦ record {
            len = within.keeps.len;
            shows_it = inr (
              shown_told new (shows goal) (opened new within.keeps.len Primary (same-goal L Primary image new within.keeps.other has)) tt,
              news-then L filled image new news within.keeps.news,
            );
          }
          | inr behind ↦
              let after = behind.1 in
              late_goal filled behind.0 new after.keeps.len (same-goal L Primary image behind.0 after.keeps.other has)
              (news-then L filled image behind.0 news after.keeps.news) behind.2
        ]

    -- the backup, then the primary, which tells
    told_primary : (filled image new : List ℕ) (a : Told) → length image ≡ L.len → IsTold a → Standing Primary image a → was ≡ a
        → SameNews L filled image
        → Stages L.sector O image (copies_of (Backup ∷ Primary ∷ []) ++ late) new → Outcome filled new
    told_primary filled image new a long told standing was_is news stages =
        elim (copy_stages L O calm Backup (copies_of (Primary ∷ []) ++ late) image new long stages) [
          | inl within ↦ record {
            len = within.keeps.len;
            shows_it = inl (shown_told new a (standing new within.keeps.len within.keeps.other) told ∙ sym was_is);
          }
          | inr behind ↦
              let after = behind.1 in
              primary_last filled behind.0 new a nothing after.keeps.len after.goal
              (standing-moves Primary image behind.0 a after.keeps.other standing)
              (was_is ∙ sym (told_first a nothing told)) (news-then L filled image behind.0 news after.keeps.news) behind.2
        ]

    -- the backup, then the primary, where nothing is told
    none_told : (filled image new : List ℕ) → length image ≡ L.len → Standing Primary image nothing → Standing Backup image nothing
        → was ≡ nothing → SameNews L filled image
        → Stages L.sector O image (copies_of (Backup ∷ Primary ∷ []) ++ late) new → Outcome filled new
    none_told filled image new long standing standing_backup was_is news stages =
        elim (copy_stages L O calm Backup (copies_of (Primary ∷ []) ++ late) image new long stages) [
          | inl within ↦
              let now = shown_by new nothing (told_at L.sector new Backup) (standing new within.keeps.len within.keeps.other) refl in
              record {
                len = within.keeps.len;
                shows_it = elim (torn_none goal (told_at L.sector new Backup) (torn_of Backup image new nothing standing_backup within)) [
                  | inl old ↦ inl (now ∙ old ∙ sym was_is)
                  | inr is ↦ inr (now ∙ is, news-then L filled image new news within.keeps.news)
                ];
              }
          | inr behind ↦
              let after = behind.1 in
              primary_last filled behind.0 new nothing nothing after.keeps.len after.goal
              (standing-moves Primary image behind.0 nothing after.keeps.other standing)
              was_is (news-then L filled image behind.0 news after.keeps.news) behind.2
        ]

    -- the primary, which tells nothing, then the backup
    told_backup : (filled image new : List ℕ) (b : Told) → length image ≡ L.len → Standing Primary image nothing
        → Standing Backup image b → was ≡ b → SameNews L filled image
        → Stages L.sector O image (copies_of (Primary ∷ Backup ∷ []) ++ late) new → Outcome filled new
    told_backup filled image new b long standing standing_backup was_is news stages =
        elim (copy_stages L O calm Primary (copies_of (Backup ∷ []) ++ late) image new long stages) [
          | inl within ↦
              let now = shown_by new (told_at L.sector new Primary) b refl (standing_backup new within.keeps.len within.keeps.other) in
              record {
                len = within.keeps.len;
                shows_it = elim (torn_over_kept b goal (told_at L.sector new Primary)
                    (torn_of Primary image new nothing standing within)) [
                      | inl old ↦ inl (now ∙ old ∙ sym was_is)
                      | inr is ↦ inr (now ∙ is, news-then L filled image new news within.keeps.news)
                    ];
              }
          | inr behind ↦
              let after = behind.1 in
              backup_last filled behind.0 new after.keeps.len after.goal
              (news-then L filled image behind.0 news after.keeps.news) behind.2
        ]

    -- which copies are written, and what is known of the places
    pub data Case (image : List ℕ) (order : List Which) : Type 0 where
      by_primary : (a : Told) → IsTold a → Standing Primary image a → was ≡ a → order ≡ Backup ∷ Primary ∷ [] → Case image order
      by_none : Standing Primary image nothing → Standing Backup image nothing → was ≡ nothing → order ≡ Backup ∷ Primary ∷ []
          → Case image order
      by_backup : (b : Told) → Standing Primary image nothing → Standing Backup image b → was ≡ b → order ≡ Primary ∷ Backup ∷ []
          → Case image order
      only_primary : (a b : Told) → HasGoal L Backup image → Standing Primary image a → was ≡ first_told a b → order ≡ Primary ∷ []
          → Case image order
      only_backup : HasGoal L Primary image → order ≡ Backup ∷ [] → Case image order
      neither : HasGoal L Primary image → order ≡ [] → Case image order

    case-moves : (base image : List ℕ) (order : List Which) → Same L Primary base image → Same L Backup base image → Case base order
        → Case image order
    case-moves base image order p b (by_primary a told standing is order_is) =
        by_primary a told (standing-moves Primary base image a p standing) is order_is
    case-moves base image order p b (by_none standing standing_backup is order_is) =
        by_none (standing-moves Primary base image nothing p standing)
        (standing-moves Backup base image nothing b standing_backup) is order_is
    case-moves base image order p b (by_backup c standing standing_backup is order_is) =
        by_backup c (standing-moves Primary base image nothing p standing)
        (standing-moves Backup base image c b standing_backup) is order_is
    case-moves base image order p b (only_primary a c has standing is order_is) =
        only_primary a c (same-goal L Backup base image b has) (standing-moves Primary base image a p standing) is order_is
    case-moves base image order p b (only_backup has order_is) = only_backup (same-goal L Primary base image p has) order_is
    case-moves base image order p b (neither has order_is) = neither (same-goal L Primary base image p has) order_is

    copies_outcome : (filled image new : List ℕ) (order : List Which) → Case image order → length image ≡ L.len → SameNews L filled image
        → Stages L.sector O image (copies_of order ++ late) new → Outcome filled new
    copies_outcome filled image new order (by_primary a told standing is order_is) long news stages =
        told_primary filled image new a long told standing is news
        (subst (λ ws. Stages L.sector O image (copies_of ws ++ late) new) order_is stages)
    copies_outcome filled image new order (by_none standing standing_backup is order_is) long news stages =
        none_told filled image new long standing standing_backup is news
        (subst (λ ws. Stages L.sector O image (copies_of ws ++ late) new) order_is stages)
    copies_outcome filled image new order (by_backup b standing standing_backup is order_is) long news stages =
        told_backup filled image new b long standing standing_backup is news
        (subst (λ ws. Stages L.sector O image (copies_of ws ++ late) new) order_is stages)
    copies_outcome filled image new order (only_primary a b has standing is order_is) long news stages =
        primary_last filled image new a b long has standing is news
        (subst (λ ws. Stages L.sector O image (copies_of ws ++ late) new) order_is stages)
    copies_outcome filled image new order (only_backup has order_is) long news stages =
        backup_last filled image new long has news (subst (λ ws. Stages L.sector O image (copies_of ws ++ late) new) order_is stages)
    copies_outcome filled image new order (neither has order_is) long news stages =
        late_goal filled image new long has news (subst (λ ws. Stages L.sector O image (copies_of ws ++ late) new) order_is stages)

    -- from the contents on: what is shown stays until the first copy
    pub contents_outcome : (body : List Call) → Each (Steady L) body → (filled base new : List ℕ) (order : List Which)
        → length base ≡ L.len
        → ((part : List Event) → ours part ≡ body → Each O (others part) → SameNews L filled (all_done base (calls_of part)))
        → ((xs : List ℕ) → length xs ≡ L.len → Same L Primary base xs → Same L Backup base xs → shown L.sector xs ≡ was)
        → Case base order → Stages L.sector O base (contents_blocks body ++ (copies_of order ++ late)) new → Outcome filled new
    contents_outcome [] each filled base new order long fill steady case stages =
        copies_outcome filled base new order case long (fill [] refl tt) stages
    contents_outcome (call ∷ body) each filled base new order long fill steady case (part, is, others_in, inl stop) =
        let all = part_calls (Steady L) (λ c q. q.steady) part (call ∷ body) is each others_in in
        let long' = kept_length L (Steady L) (λ c q. q.inside) base (calls_of part) new long all stop.agrees in
        record {
          len = long';
          shows_it = inl (steady new long' (steady_same L Primary base (calls_of part) new long all stop.agrees)
              (steady_same L Backup base (calls_of part) new long all stop.agrees));
        }
    contents_outcome (call ∷ body) each filled base new order long fill steady case (part, is, others_in, inr later) =
        let all = part_calls (Steady L) (λ c q. q.steady) part (call ∷ body) is each others_in in
        let next = all_done base (calls_of part) in
        let agrees = whole L (Steady L) (λ c q. q.inside) base (calls_of part) long all in
        copies_outcome filled (all_done base (calls_of part)) new order
        (case-moves base (all_done base (calls_of part)) order
        (steady_same L Primary base (calls_of part) (all_done base (calls_of part)) long all agrees)
        (steady_same L Backup base (calls_of part) (all_done base (calls_of part)) long all agrees) case)
        (kept_length L (Steady L) (λ c q. q.inside) base (calls_of part) (all_done base (calls_of part)) long all agrees)
        (fill part is others_in) later
