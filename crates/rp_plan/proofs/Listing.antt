-- Lists made from lists, place by place.
use Rattle.std.proofs.Common.{◌≡◌, ◌∙◌, List, [], ◌∷◌, map, refl, ap, sym}

pub maps_same : {A B C D : Type 0} (f : B → D) (g : A → B) (h : C → D) (k : A → C) → ((a : A) → f (g a) ≡ h (k a)) → (xs : List A)
    → map f (map g xs) ≡ map h (map k xs)
maps_same f g h k same [] = refl
maps_same f g h k same (x ∷ xs) = ap (λ y. y ∷ map f (map g xs)) (same x) ∙ ap (λ ys. h (k x) ∷ ys) (maps_same f g h k same xs)

pub map_same : {A B D : Type 0} (f : B → D) (g : A → B) (h : A → D) → ((a : A) → f (g a) ≡ h a) → (xs : List A) → map f (map g xs) ≡ map h xs
map_same f g h same [] = refl
map_same f g h same (x ∷ xs) = ap (λ y. y ∷ map f (map g xs)) (same x) ∙ ap (λ ys. h x ∷ ys) (map_same f g h same xs)

-- what is seen of rows through a part of them
pub through : {A B X : Type 0} (part : A → B) (f : A → X) (g : B → X) → ((a : A) → g (part a) ≡ f a) → (xs ys : List A)
    → map part xs ≡ map part ys → map f xs ≡ map f ys
through part f g same xs ys is =
    sym (map_same g part f same xs) ∙ ap (map g) is ∙ map_same g part f same ys
