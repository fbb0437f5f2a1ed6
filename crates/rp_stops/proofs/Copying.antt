-- A copy behind a shut gate: it is closed, its array written, and opened.
use Rattle.std.proofs.Common.{◌≡◌, ℕ, ◌+◌, ◌≤◌, ◌⊎◌, List, [], ◌∷◌, length, replicate, refl, sym, ◌∙◌, subst, inl, inr, arith}
use Rattle.std.proofs.lemmas.List.{length-replicate}
use Rattle.rp_base.specs.Image.{bytes_at}
use Rattle.rp_base.specs.declared.geometry.Which.{Which}
use Rattle.rp_base.specs.declared.geometry.Which.TheVariants.{Primary, Backup}
use Rattle.rp_disk.specs.declared.call.Call.{Call}
use Rattle.rp_disk.specs.declared.call.Call.TheVariants.{Write}
use Rattle.rp_disk.specs.Calls.{all_done}
use Rattle.rp_disk.specs.Ranges.{Apart, Inside}
use Rattle.rp_disk.specs.Stops.{Agrees, Each}
use Rattle.rp_disk.proofs.Blocks.{Each-imp}
use Rattle.rp_gpt.specs.Shown.{IsTold, told_at}
use Rattle.rp_stops.specs.Writers.{Event, mine, calls_of, ours, others}
use Rattle.rp_stops.proofs.Cuts.{around, each_call}
use Rattle.rp_stops.proofs.Stages.{Stop, Stages}
use Rattle.rp_stops.proofs.Cells.{Layout, Touches, part_written, Calm, Own, calm_own, Same, HasGoal, Keeps, keeps-then, head_fits, array_fits, kept, own_keeps, stop_header, whole}

module _ (L : Layout) (O : Call → Type 0) (calm : (call : Call) → O call → Calm L call) where
  abbrev zeros : List ℕ
  zeros = replicate L.sector 0

  zeros_long : length zeros ≡ L.sector
  zeros_long = length-replicate {A = ℕ} L.sector 0

  -- the three writes of a copy
  abbrev pub closing : Which → Call
  closing which = Write (L.head which) (replicate L.sector 0)

  abbrev pub filling : Which → Call
  filling which = Write (L.array which) (L.goal_array which)

  abbrev pub opening : Which → Call
  opening which = Write (L.head which) (L.goal_head which)

  -- a write at a place is the place's own
  own_head : (which : Which) (bytes : List ℕ) → length bytes ≡ L.sector → Own L which (Write (L.head which) bytes)
  own_head Primary bytes size = record {
    inside = omega (arith, size, head_fits L Primary);
    head = inr (omega (arith, size, L.primary, L.middle, L.backup));
    array = inr (omega (arith, size, L.primary, L.middle));
    news = λ at n new. let between = L.news at n new in inr (omega (arith, size, between.0, L.primary));
  }
  own_head Backup bytes size = record {
    inside = omega (arith, size, L.end);
    head = inl (omega (arith, L.primary, L.middle, L.backup));
    array = inl (omega (arith, L.middle, L.backup));
    news = λ at n new. let between = L.news at n new in inl (omega (arith, between.1, L.backup));
  }

  own_array : (which : Which) (bytes : List ℕ) → length bytes ≡ L.size → Own L which (Write (L.array which) bytes)
  own_array Primary bytes size = record {
    inside = omega (arith, size, array_fits L Primary);
    head = inr (omega (arith, size, L.middle, L.backup));
    array = inr (omega (arith, size, L.middle));
    news = λ at n new. let between = L.news at n new in inr (omega (arith, size, between.0));
  }
  own_array Backup bytes size = record {
    inside = omega (arith, size, array_fits L Backup);
    head = inl (omega (arith, L.primary, L.middle));
    array = inl (omega (arith, L.middle));
    news = λ at n new. let between = L.news at n new in inl (omega (arith, between.1));
  }

  -- a write of a header leaves the array alone, and a write of an array the header
  head_beside : (which : Which) (bytes : List ℕ) → length bytes ≡ L.sector → Apart (L.array which) L.size (Write (L.head which) bytes)
  head_beside Primary bytes size = inr (omega (arith, size, L.primary))
  head_beside Backup bytes size = inl (omega (arith, L.backup))

  array_beside : (which : Which) (bytes : List ℕ) → length bytes ≡ L.size → Apart (L.head which) L.sector (Write (L.array which) bytes)
  array_beside Primary bytes size = inl (omega (arith, L.primary))
  array_beside Backup bytes size = inr (omega (arith, size, L.backup))

  -- what holds of one call of ours and of calm calls holds of a part
  part_each : (P : Call → Type 0) → ((call : Call) → Calm L call → P call) → (call : Call) → P call → (part : List Event)
      → ours part ≡ call ∷ [] → Each O (others part)
      → Each P (calls_of part)
  part_each P of_calm call here part is each =
      each_call P part (subst (Each P) (sym is) (here, tt)) (Each-imp O P (λ c o. of_calm c (calm c o)) (others part) each)

  -- a write of a header, with writes of others
  record HeaderPart (which : Which) (bytes : List ℕ) (calls : List Call) : Type 0 where
    inside : Each (Inside L.len) calls
    own : Each (Own L which) calls
    array : Each (Apart (L.array which) L.size) calls
    touches : Each (Touches (L.head which) bytes) calls
    written : (image : List ℕ) → length image ≡ L.len → bytes_at (all_done image calls) (L.head which) L.sector ≡ bytes

  header_part : (which : Which) (bytes : List ℕ) → length bytes ≡ L.sector → (part : List Event)
      → ours part ≡ Write (L.head which) bytes ∷ [] → Each O (others part)
      → HeaderPart which bytes (calls_of part)
  header_part which bytes size part is each =
      let own = own_head which bytes size in
      let apart : (call : Call) → Calm L call → Apart (L.head which) (length bytes) call =
      λ c q. subst (λ (n : ℕ). Apart (L.head which) n c) (sym size) (q.steady.heads which) in
      record {
        inside = part_each (Inside L.len) (λ c q. q.steady.inside) (Write (L.head which) bytes) own.inside part is each;
        own = part_each (Own L which) (calm_own L which) (Write (L.head which) bytes) own part is each;
        array = part_each (Apart (L.array which) L.size) (λ c q. q.steady.arrays which) (Write (L.head which) bytes)
            (head_beside which bytes size) part is each;
        touches = part_each (Touches (L.head which) bytes) (λ c q. inl (apart c q)) (Write (L.head which) bytes) (inr refl) part is each;
        written = λ image long.
            subst (λ (n : ℕ). bytes_at (all_done image (calls_of part)) (L.head which) n ≡ bytes) size
            (part_written L.len (L.head which) bytes (omega (arith, size, head_fits L which)) O (λ c o. (calm c o).steady.inside)
            (λ c o. apart c (calm c o))
            (calls_of part) (around O part (Write (L.head which) bytes) is each) image long);
      }

  -- a write of an array, with writes of others
  record ArrayPart (which : Which) (calls : List Call) : Type 0 where
    own : Each (Own L which) calls
    inside : Each (Inside L.len) calls
    head : Each (Apart (L.head which) L.sector) calls
    written : (image : List ℕ) → length image ≡ L.len → bytes_at (all_done image calls) (L.array which) L.size ≡ L.goal_array which

  array_part : (which : Which) (part : List Event) → ours part ≡ filling which ∷ [] → Each O (others part)
      → ArrayPart which (calls_of part)
  array_part which part is each =
      let bytes = L.goal_array which in
      let size = L.array_long which in
      let own = own_array which (L.goal_array which) (L.array_long which) in
      let apart : (call : Call) → Calm L call → Apart (L.array which) (length (L.goal_array which)) call =
      λ c q. subst (λ (n : ℕ). Apart (L.array which) n c) (sym (L.array_long which)) (q.steady.arrays which) in
      record {
        own = part_each (Own L which) (calm_own L which) (filling which) own part is each;
        inside = part_each (Inside L.len) (λ c q. q.steady.inside) (filling which) own.inside part is each;
        head = part_each (Apart (L.head which) L.sector) (λ c q. q.steady.heads which) (filling which)
            (array_beside which (L.goal_array which) (L.array_long which)) part is each;
        written = λ image long.
            subst (λ (n : ℕ). bytes_at (all_done image (calls_of part)) (L.array which) n ≡ L.goal_array which) (L.array_long which)
            (part_written L.len (L.array which) (L.goal_array which) (omega (arith, L.array_long which, array_fits L which)) O
            (λ c o. (calm c o).steady.inside) (λ c o. apart c (calm c o))
            (calls_of part) (around O part (filling which) is each) image long);
      }

  -- a range that each of these calls leaves alone
  alone : (at n : ℕ) → at + n ≤ L.len → (image : List ℕ) (later : List Call) (new : List ℕ) → length image ≡ L.len
      → Each (Inside L.len) later → Each (Apart at n) later
      → Agrees image later new → bytes_at new at n ≡ bytes_at image at n
  alone at n fits image later new long inside apart agrees =
      kept L (λ c. Inside L.len c × Apart at n c) (λ c p. p.0) at n (λ c p. p.1) fits image later new long
      (both later inside apart) agrees
    where
      both : (calls : List Call) → Each (Inside L.len) calls → Each (Apart at n) calls → Each (λ c. Inside L.len c × Apart at n c) calls
      both [] a b = tt
      both (c ∷ calls) a b = ((a.0, b.0), both calls a.1 b.1)

  done : (image : List ℕ) (calls : List Call) → length image ≡ L.len → Each (Inside L.len) calls
      → Agrees image calls (all_done image calls)
  done image calls long inside = whole L (Inside L.len) (λ c i. i) image calls long inside

  -- within a copy: where its place tells, it is as before or has the goal
  pub record Within (which : Which) (image new : List ℕ) : Type 0 where
    pub torn : IsTold (told_at L.sector new which) → Same L which image new ⊎ HasGoal L which new
    pub keeps : Keeps L which image new

  -- behind it: the place has the goal
  pub record After (which : Which) (image new : List ℕ) : Type 0 where
    pub goal : HasGoal L which new
    pub keeps : Keeps L which image new

  not_told : (which : Which) (new : List ℕ) → length new ≡ L.len → bytes_at new (L.head which) L.sector ≡ replicate L.sector 0
      → IsTold (told_at L.sector new which) → ⊥
  not_told which new long shut told = subst IsTold (L.closed new long which shut) told

  module _ (which : Which) (image : List ℕ) (long : length image ≡ L.len) where
    -- the header is closed: it is the old one or zeros, and the array is the old one
    close_stage : (calls : List Call) → HeaderPart which (replicate L.sector 0) calls → (new : List ℕ) → Stop L.sector image calls new
        → Within which image new
    close_stage calls part new stop =
        let keeps = own_keeps L which image calls new long part.own stop.agrees in
        record {
          torn = λ told. elim (stop_header L which (replicate L.sector 0)
              (length-replicate L.sector 0) image calls new long keeps.len part.inside part.touches stop told) [
                | inl same ↦ inl (record {
                  head = same;
                  array = alone (L.array which) L.size
                      (array_fits L which) image calls new long part.inside part.array stop.agrees;
                })
                | inr shut ↦ absurd (not_told which new keeps.len shut told)
              ];
          keeps = keeps;
        }

    -- the array is written: the header is closed
    fill_stage : (calls : List Call) → ArrayPart which calls → bytes_at image (L.head which) L.sector ≡ replicate L.sector 0
        → (new : List ℕ) → Stop L.sector image calls new → Within which image new
    fill_stage calls part shut new stop =
        let keeps = own_keeps L which image calls new long part.own stop.agrees in
        record {
          torn = λ told. absurd (not_told which new keeps.len
              (alone (L.head which) L.sector (head_fits L which) image calls new long part.inside part.head stop.agrees ∙ shut) told);
          keeps = keeps;
        }

    -- the header is opened: it is closed or the goal's, and the array is the goal's
    open_stage : (calls : List Call) → HeaderPart which (L.goal_head which) calls
        → bytes_at image (L.head which) L.sector ≡ replicate L.sector 0
        → bytes_at image (L.array which) L.size ≡ L.goal_array which → (new : List ℕ) → Stop L.sector image calls new
        → Within which image new
    open_stage calls part shut filled new stop =
        let keeps = own_keeps L which image calls new long part.own stop.agrees in
        record {
          torn = λ told. elim (stop_header L which (L.goal_head which)
              (L.head_long which) image calls new long keeps.len part.inside part.touches stop told) [
                | inl same ↦ absurd (not_told which new keeps.len (same ∙ shut) told)
                | inr goal ↦ inr (record {
                  head = goal;
                  array = alone (L.array which) L.size
                      (array_fits L which) image calls new long part.inside part.array stop.agrees ∙ filled;
                })
              ];
          keeps = keeps;
        }

  -- from a later image of the same copy
  within-from : (which : Which) (image middle new : List ℕ) → bytes_at middle (L.head which) L.sector ≡ replicate L.sector 0
      → Keeps L which image middle
      → Within which middle new → ((Same L which middle new → IsTold (told_at L.sector new which) → ⊥)) → Within which image new
  within-from which image middle new shut keeps within other_way = record {
    torn = λ told. elim (within.torn told) [ inl same ↦ absurd (other_way same told) | inr goal ↦ inr goal ];
    keeps = keeps-then L which image middle new keeps within.keeps;
  }

  -- a stop in a copy, or behind it
  pub copy_stages : (which : Which) (rest : List (List Call)) (image new : List ℕ) → length image ≡ L.len
      → Stages L.sector O image ((closing which ∷ []) ∷ (filling which ∷ []) ∷ (opening which ∷ []) ∷ rest) new
      → Within which image new ⊎ ((behind : List ℕ) × After which image behind × Stages L.sector O behind rest new)
  copy_stages which rest image new long (part, is, each, inl stop) =
      inl (close_stage which image long (calls_of part) (header_part which (replicate L.sector 0)
      (length-replicate L.sector 0) part is each) new stop)
  copy_stages which rest image new long (part, is, each, inr later) = closed_stages later
    where
      shut_part : HeaderPart which (replicate L.sector 0) (calls_of part)
      shut_part = header_part which (replicate L.sector 0) (length-replicate L.sector 0) part is each

      shut : List ℕ
      shut = all_done image (calls_of part)

      keeps_shut : Keeps L which image (all_done image (calls_of part))
      keeps_shut = own_keeps L which image (calls_of part) (all_done image (calls_of part)) long shut_part.own
          (done image (calls_of part) long shut_part.inside)

      is_shut : bytes_at (all_done image (calls_of part)) (L.head which) L.sector ≡ replicate L.sector 0
      is_shut = shut_part.written image long

      from_shut : (middle new : List ℕ) → length middle ≡ L.len → bytes_at middle (L.head which) L.sector ≡ replicate L.sector 0
          → Keeps L which image middle → Within which middle new → Within which image new
      from_shut middle new long' shut keeps within =
          within-from which image middle new shut keeps within (λ same told. not_told which new within.keeps.len (same.head ∙ shut) told)

      closed_stages : Stages L.sector O (all_done image (calls_of part)) ((filling which ∷ []) ∷ (opening which ∷ []) ∷ rest) new
          → Within which image new ⊎ ((behind : List ℕ) × After which image behind × Stages L.sector O behind rest new)
      closed_stages (fill, fill_is, fill_each, inl stop) =
          inl (from_shut (all_done image (calls_of part)) new keeps_shut.len is_shut keeps_shut
          (fill_stage which (all_done image (calls_of part)) keeps_shut.len (calls_of fill)
          (array_part which fill fill_is fill_each) is_shut new stop))
      closed_stages (fill, fill_is, fill_each, inr later) = filled_stages later
        where
          fill_part : ArrayPart which (calls_of fill)
          fill_part = array_part which fill fill_is fill_each

          filled_agrees : Agrees (all_done image (calls_of part)) (calls_of fill)
              (all_done (all_done image (calls_of part)) (calls_of fill))
          filled_agrees = done (all_done image (calls_of part)) (calls_of fill) keeps_shut.len fill_part.inside

          keeps_filled : Keeps L which image (all_done (all_done image (calls_of part)) (calls_of fill))
          keeps_filled =
              keeps-then L which image (all_done image (calls_of part))
              (all_done (all_done image (calls_of part)) (calls_of fill)) keeps_shut
              (own_keeps L which (all_done image (calls_of part)) (calls_of fill)
              (all_done (all_done image (calls_of part)) (calls_of fill)) keeps_shut.len fill_part.own filled_agrees)

          still_shut : bytes_at (all_done (all_done image (calls_of part)) (calls_of fill)) (L.head which) L.sector ≡ replicate L.sector 0
          still_shut =
              alone (L.head which) L.sector (head_fits L which) (all_done image (calls_of part)) (calls_of fill)
              (all_done (all_done image (calls_of part)) (calls_of fill))
              keeps_shut.len fill_part.inside fill_part.head filled_agrees ∙ is_shut

          is_filled : bytes_at (all_done (all_done image (calls_of part)) (calls_of fill)) (L.array which) L.size ≡ L.goal_array which
          is_filled = fill_part.written (all_done image (calls_of part)) keeps_shut.len

          filled_stages : Stages L.sector O (all_done (all_done image (calls_of part)) (calls_of fill)) ((opening which ∷ []) ∷ rest) new
              → Within which image new ⊎ ((behind : List ℕ) × After which image behind × Stages L.sector O behind rest new)
          filled_stages (open_part, open_is, open_each, inl stop) =
              inl (from_shut (all_done (all_done image (calls_of part)) (calls_of fill)) new keeps_filled.len still_shut keeps_filled
              (open_stage which (all_done (all_done image (calls_of part)) (calls_of fill)) keeps_filled.len (calls_of open_part)
              (header_part which (L.goal_head which) (L.head_long which) open_part open_is open_each) still_shut is_filled new stop))
          filled_stages (open_part, open_is, open_each, inr later) =
              let middle = all_done (all_done image (calls_of part)) (calls_of fill) in
              let opened = header_part which (L.goal_head which) (L.head_long which) open_part open_is open_each in
              let agrees = done (all_done (all_done image (calls_of part)) (calls_of fill))
              (calls_of open_part) keeps_filled.len opened.inside in
              inr (
                all_done (all_done (all_done image (calls_of part)) (calls_of fill)) (calls_of open_part),
                record {
                  goal = record {
                    head = opened.written (all_done (all_done image (calls_of part)) (calls_of fill)) keeps_filled.len;
                    array = alone (L.array which) L.size (array_fits L which) (all_done (all_done image (calls_of part)) (calls_of fill))
                        (calls_of open_part)
                        (all_done (all_done (all_done image (calls_of part)) (calls_of fill))
                        (calls_of open_part)) keeps_filled.len opened.inside opened.array agrees ∙ is_filled;
                  };
                  keeps = keeps-then L which image (all_done (all_done image (calls_of part)) (calls_of fill))
                      (all_done (all_done (all_done image (calls_of part)) (calls_of fill)) (calls_of open_part)) keeps_filled
                      (own_keeps L which (all_done (all_done image (calls_of part)) (calls_of fill)) (calls_of open_part)
                      (all_done (all_done (all_done image (calls_of part)) (calls_of fill))
                      (calls_of open_part)) keeps_filled.len opened.own agrees);
                },
                later,
              )

  -- a copy by itself, done whole
  pub copy_done : (which : Which) (image : List ℕ) → length image ≡ L.len
      → After which image (all_done (all_done (all_done image (closing which ∷ [])) (filling which ∷ [])) (opening which ∷ []))
  copy_done which image long =
      let shut_part = header_part which (replicate L.sector 0) (length-replicate L.sector 0) (mine (closing which) ∷ []) refl tt in
      let fill_part = array_part which (mine (filling which) ∷ []) refl tt in
      let open_part = header_part which (L.goal_head which) (L.head_long which) (mine (opening which) ∷ []) refl tt in
      let shut = all_done image (closing which ∷ []) in
      let shut_agrees = done image (closing which ∷ []) long shut_part.inside in
      let keeps_shut = own_keeps L which image (closing which ∷ [])
      (all_done image (closing which ∷ [])) long shut_part.own shut_agrees in
      let filled_agrees = done (all_done image (closing which ∷ [])) (filling which ∷ []) keeps_shut.len fill_part.inside in
      let keeps_filled =
      keeps-then L which image (all_done image (closing which ∷ []))
      (all_done (all_done image (closing which ∷ [])) (filling which ∷ [])) keeps_shut
      (own_keeps L which (all_done image (closing which ∷ [])) (filling which ∷ [])
      (all_done (all_done image (closing which ∷ [])) (filling which ∷ [])) keeps_shut.len fill_part.own filled_agrees) in
      let agrees = done (all_done (all_done image (closing which ∷ [])) (filling which ∷ []))
      (opening which ∷ []) keeps_filled.len open_part.inside in
      record {
        goal = record {
          head = open_part.written (all_done (all_done image (closing which ∷ [])) (filling which ∷ [])) keeps_filled.len;
          array = alone (L.array which) L.size (array_fits L which) (all_done (all_done image (closing which ∷ [])) (filling which ∷ []))
              (opening which ∷ [])
              (all_done (all_done (all_done image (closing which ∷ [])) (filling which ∷ []))
              (opening which ∷ [])) keeps_filled.len open_part.inside open_part.array agrees
              ∙ fill_part.written (all_done image (closing which ∷ [])) keeps_shut.len;
        };
        keeps = keeps-then L which image (all_done (all_done image (closing which ∷ [])) (filling which ∷ []))
            (all_done (all_done (all_done image (closing which ∷ [])) (filling which ∷ [])) (opening which ∷ [])) keeps_filled
            (own_keeps L which (all_done (all_done image (closing which ∷ [])) (filling which ∷ [])) (opening which ∷ [])
            (all_done (all_done (all_done image (closing which ∷ [])) (filling which ∷ []))
            (opening which ∷ [])) keeps_filled.len open_part.own agrees);
      }
