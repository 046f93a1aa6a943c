-- What is in an option, and what holds whatever a result is.
use Rattle.std.proofs.Common.{◌≡◌, false, refl, ap, ◌∙◌, Option, Some, None, option_map, is_some, Result, Ok, Err}
use Rattle.std.specs.Option.{IsSome}
use Rattle.std.proofs.lemmas.Option.{same_Some}
use Rattle.std.specs.Result.{OnOk, OnErr}

-- what isn't some is none
pub none_from : {A : Type 0} (o : Option A) → is_some o ≡ false → o ≡ None
none_from None e = refl
none_from (Some x) e = absurd (cc)

-- what is some
pub record There {A : Type 0} (o : Option A) : Type 0 where
  pub what : A
  pub found : o ≡ Some what

pub there : {A : Type 0} (o : Option A) → IsSome o → There o
there None h = absurd (cc)
there (Some x) h = record { what = x; found = refl }

pub is_there : {A : Type 0} (o : Option A) (x : A) → o ≡ Some x → IsSome o
is_there o x e = ap is_some e

-- y is what was made of x
pub mapped_is : {A B : Type 0} (o : Option A) (f : A → B) (x : A) (y : B) → Some y ≡ option_map f o → o ≡ Some x → y ≡ f x
mapped_is o f x y made e = same_Some y (f x) (made ∙ ap (option_map f) e)

-- what y was made of
pub record Back {A B : Type 0} (o : Option A) (f : A → B) (y : B) : Type 0 where
  pub what : A
  pub found : o ≡ Some what
  pub is : y ≡ f what

pub back : {A B : Type 0} (o : Option A) (f : A → B) (y : B) → Some y ≡ option_map f o → Back o f y
back None f y e = absurd (cc)
back (Some x) f y e = record { what = x; found = refl; is = cc }

-- that of which none is made is none
pub none_mapped : {A B : Type 0} (o : Option A) (f : A → B) → None ≡ option_map f o → o ≡ None
none_mapped None f e = refl
none_mapped (Some x) f e = absurd (cc)

-- that of which some is made is some
pub some_mapped : {A B : Type 0} (o : Option A) (f : A → B) → is_some (option_map f o) ≡ is_some o
some_mapped None f = refl
some_mapped (Some x) f = refl

-- what holds holds on success
pub on_ok : {T E P : Type 0} (r : Result T E) → P → OnOk r P
on_ok (Ok x) p = p
on_ok (Err e) p = tt

-- and on an error
pub on_err : {T E P : Type 0} (r : Result T E) → P → OnErr r P
on_err (Ok x) p = tt
on_err (Err e) p = p
