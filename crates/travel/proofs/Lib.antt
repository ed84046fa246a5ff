mod Roomy
