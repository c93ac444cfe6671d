pub mod Agreement
pub mod Claims
pub mod Ends
pub mod Numbers
pub mod Printed
pub mod RoundTrip
pub mod Texts
